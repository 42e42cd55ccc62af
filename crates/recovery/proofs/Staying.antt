-- The journal asks only for sectors of its device, and writes only whole sectors of bytes.
use Rattle.std.proofs.Common.{◌≡◌, ℕ, zero, suc, ◌+◌, ◌*◌, ◌<◌, ◌≤◌, Bool, true, false, cond, ◌&&◌, T, eqb, ltb, leb, List, [], ◌∷◌, ◌++◌, length, drop, sym, refl, ◌∙◌, subst, arith, ltb→lt, length-append, length-drop, length-take, ltb-true, leb-true, leb-false, eqb-true, Ok, Err}
use Rattle.disks.specs.Device
use Rattle.disks.specs.Device.{Device, Io, answer, read, write, sync, run, Ran, Fair, shown, written, synced, then', Event, World, off, on, Trace, all_bytes}
use Rattle.compose.proofs.Inside.{fair_then}
use Rattle.octets.proofs.Fields.{bytes_take, bytes_drop}
use Rattle.journal.specs.Format.{most_writes, slot_sectors, guarded, part_of, half_of}
use Rattle.journal.specs.Scans.{Scanned, scan_start, scan_on, redo_count, write_at, writes_from}
use Rattle.journal.specs.Programs.{base, other, in_area, all_in_area, allowed, write_all_io, record_from, record_of, transact_io, put_io, Put', get_io, after_put, scan_from, scan_io, replay_from, redo_io, recover_io, open_io, ready, Opened}
use Rattle.recovery.specs.Machines.{Call, Get, Put, Reply, No, put_reply, whole_sectors, call_io, journal, Array, array, JournalWithin}
use Rattle.journal.specs.declared.state.Refused.TheVariants.{OutOfRange, NumbersUsedUp}
use Rattle.journal.specs.declared.Place.{Place}
use Rattle.journal.specs.declared.scan.Scan.{Scan}
use Rattle.journal.specs.declared.state.Write.{Write}
use Rattle.journal.specs.declared.state.Slot.{Slot}
use Rattle.journal.specs.declared.state.Slot.TheVariants.{First, Second}
use Rattle.journal.specs.declared.state.Journal.{Journal}
use Rattle.recovery.proofs.Scanning.{gathered}
use Rattle.recovery.proofs.Sound.{bytes-append}
use Rattle.recovery.proofs.Records.{sector-bytes}
use Rattle.recovery.proofs.Redoing.{slot_of, slot_room, found_in_area, redo_few, one_run, same_after, apart_from, further}
use Rattle.recovery.proofs.Mixing.{writes_in}
use Rattle.recovery.proofs.Inv.{IsSector, Off, On}
use Rattle.recovery.proofs.Opening.{scan_is, recover_is, which}
use Rattle.recovery.proofs.Room.{open_large, kept, fair_open_small, fair_call_small}
use Rattle.recovery.proofs.Calls.{fine}
use Rattle.recovery.proofs.Keeping.{held, Inv}
use Rattle.octets.proofs.Numbers.{both}
use Rattle.recovery.proofs.Tests.{is_so}

-- what each write of a list must be
pub data Good (size : ℕ) : List Write → Type 0 where
  nil : Good size []
  more : {w : Write} {ws : List Write} → w.target.0 < size → IsSector w.bytes → Good size ws → Good size (w ∷ ws)

pub fair_all : (size : ℕ) (ws : List Write) (d : Device) → Good size ws → Fair size (write_all_io ws) d
unfolding write_all_io
fair_all size [] d nil = Fair.ends tt d
fair_all size (w ∷ ws) d (more l s g) = Fair.writes l s.0 s.1 (fair_all size ws (written w.target.0 w.bytes d) g)

good-area : (size : ℕ) (ws : List Write) → T (all_in_area size ws) → T (whole_sectors ws) → Good size ws
unfolding all_in_area whole_sectors
good-area size [] a s = nil
good-area size (w ∷ ws) a s =
    let x = both (leb guarded w.target.0 && ltb w.target.0 size) (all_in_area size ws) a in
    let y = both (leb guarded w.target.0) (ltb w.target.0 size) x.0 in
    let u = both (eqb (length w.bytes) 512 && all_bytes w.bytes) (whole_sectors ws) s in
    let v = both (eqb (length w.bytes) 512) (all_bytes w.bytes) u.0 in
    more (ltb→lt w.target.0 size y.1) (eqb-true (length w.bytes) 512 (is_so (eqb (length w.bytes) 512) v.0), v.1) (good-area size ws x.1 u.1)

good_record : (size at n : ℕ) (ws : List Write) (some : 1 ≤ n) (below : n < 4611686018427387904) (few : length ws ≤ most_writes) (area : T (all_in_area size ws)) (whole : T (whole_sectors ws)) (fits : size ≤ 1099511627776) (i k : ℕ) → i + k ≡ 2 * length ws → at + slot_sectors ≤ size → Good size (record_from at n ws i k)
unfolding record_from
good_record size at n ws some below few area whole fits i zero e l = nil
good_record size at n ws some below few area whole fits i (suc k) e l = more (omega arith) (sector-bytes size n ws some below few area whole fits i (omega arith)) (good_record size at n ws some below few area whole fits (i + 1) k (omega arith) l)

-- scans
fair_scan : (size at i k : ℕ) (s : Scanned) (d : Device) → at + (i + k) ≤ size → Fair size (scan_from size at i k s) d
unfolding scan_from
fair_scan size at i zero s d l = Fair.ends s d
fair_scan size at i (suc k) s d l = Fair.reads (omega arith) (fair_scan size at (i + 1) k (scan_on size i (shown d (at + i)) s) d (omega arith))

-- halves make a sector
halves : (a b : List ℕ) → IsSector a → IsSector b → IsSector (half_of a ++ half_of b)
halves a b x y =
    (length-append (half_of a) (half_of b) ∙ omega (arith, half a x.0, half b y.0), bytes-append (half_of a) (half_of b) (bytes_take 256 (drop 40 a) (bytes_drop 40 a x.1)) (bytes_take 256 (drop 40 b) (bytes_drop 40 b y.1)))
  where
    half : (c : List ℕ) → length c ≡ 512 → length (half_of c) ≡ 256
    half c l = length-take 256 (drop 40 c) ∙ omega (arith, length-drop 40 c)

-- replays
module _ (size at : ℕ) (g : ℕ → List ℕ) (large : guarded ≤ size) where
  target_low : (w : Write) (ws : List Write) → T (all_in_area size (w ∷ ws)) → w.target.0 < size
  unfolding all_in_area
  target_low w ws t = let x = both (leb guarded w.target.0 && ltb w.target.0 size) (all_in_area size ws) t in ltb→lt w.target.0 size (both (leb guarded w.target.0) (ltb w.target.0 size) x.0).1

  pub fair_replay : (i k : ℕ) (d : Device) → at + 2 * (i + k) ≤ guarded → T (all_in_area size (writes_from g i k)) → ((q : ℕ) → q < 2 * (i + k) → IsSector (g q)) → ((q : ℕ) → q < 2 * (i + k) → shown d (at + q) ≡ g q) → Fair size (replay_from at i k) d
  unfolding replay_from writes_from
  fair_replay i zero d fits area sec same = Fair.ends tt d
  fair_replay i (suc k) d fits area sec same =
      let a = same (2 * i) (omega arith) in
      let b = same (2 * i + 1) (omega arith) in
      let next = fair_replay (i + 1) k (written (write_at g i).target.0 (write_at g i).bytes d) (omega arith) (further size at g (write_at g i) (writes_from g (i + 1) k) area) (λ q l. sec q (omega arith)) (λ q l. apart_from size at g (write_at g i) (writes_from g (i + 1) k) d i (suc k) fits area same q (omega arith)) in
      let good : Fair size (write (write_at g i).target.0 (write_at g i).bytes (replay_from at (i + 1) k)) d = Fair.writes (target_low (write_at g i) (writes_from g (i + 1) k) area) (halves (g (2 * i)) (g (2 * i + 1)) (sec (2 * i) (omega arith)) (sec (2 * i + 1) (omega arith))).0 (halves (g (2 * i)) (g (2 * i + 1)) (sec (2 * i) (omega arith)) (sec (2 * i + 1) (omega arith))).1 next in
      Fair.reads (omega arith) (Fair.reads (omega arith) (subst (λ (x : List ℕ). Fair size (write (part_of x).target.0 (half_of x ++ half_of (shown d (at + (2 * i + 1)))) (replay_from at (i + 1) k)) d) (sym a) (subst (λ (x : List ℕ). Fair size (write (part_of (g (2 * i))).target.0 (half_of (g (2 * i)) ++ half_of x) (replay_from at (i + 1) k)) d) (sym b) good)))

-- OPENING
module _ (size n : ℕ) (array : ℕ → List ℕ) (d : Device) (off' : Off size n array d) (large : guarded ≤ size) where
  abbrev scan : Slot → Scan
  scan slot = gathered size (slot_of d slot) slot_sectors

  fair_redo : (o : Slot) → Fair size (redo_io o (scan o) (scan (other o))) d
  unfolding redo_io run
  fair_redo o =
      fair_then size (replay_from (base o) 0 (redo_count (scan o))) (λ _. then' (replay_from (base (other o)) 0 (redo_count (scan (other o)))) (λ _. sync (answer tt))) d
      (fair_replay size (base o) (slot_of d o) (omega arith) 0 (redo_count (scan o)) d (slot_room o (scan o)) (found_in_area size n (slot_of d o) (off'.ours o)) (λ q l. off'.bytes o q (omega (arith, redo_few (scan o)))) (λ q l. refl))
      (subst (λ (r : Ran (Unit {0})). Fair size (then' (replay_from (base (other o)) 0 (redo_count (scan (other o)))) (λ _. sync (answer tt))) r.device) (sym (one_run size n d off'.ours o))
      (fair_then size (replay_from (base (other o)) 0 (redo_count (scan (other o)))) (λ _. sync (answer tt)) (run (write_all_io (writes_in size (slot_of d o))) d).device
      (fair_replay size (base (other o)) (slot_of d (other o)) (omega arith) 0 (redo_count (scan (other o))) (run (write_all_io (writes_in size (slot_of d o))) d).device (slot_room (other o) (scan (other o))) (found_in_area size n (slot_of d (other o)) (off'.ours (other o))) (λ q l. off'.bytes (other o) q (omega (arith, redo_few (scan (other o))))) (λ q l. same_after size n d off'.ours o q (omega (arith, redo_few (scan (other o))))))
      (Fair.syncs (Fair.ends tt _))))

  fair_slot : (slot : Slot) → Fair size (scan_io size slot) d
  fair_slot First = fair_scan size 0 0 slot_sectors (Ok scan_start) d (omega arith)
  fair_slot Second = fair_scan size slot_sectors 0 slot_sectors (Ok scan_start) d (omega arith)

  pub fair_open : Fair size (open_io size) d
  unfolding run
  fair_open =
      let (o, x) = which size n array d off' in
      let last' : Fair size (recover_io size (Ok (scan First)) (Ok (scan Second))) d = subst (λ (p : Io Opened). Fair size p d) (sym (recover_is size n array d off' o x)) (fair_then size (redo_io o (scan o) (scan (other o))) (λ _. answer (Ok (ready size o (scan o) (scan (other o))))) d (fair_redo o) (Fair.ends _ _)) in
      let second' = fair_then size (scan_io size Second) (λ b. recover_io size (Ok (scan First)) b) d (fair_slot Second) (subst (λ (r : Ran Scanned). Fair size (recover_io size (Ok (scan First)) r.value) r.device) (sym (scan_is size n array d off' Second)) last') in
      subst (λ (p : Io Opened). Fair size p d) (sym (open_large size large)) (fair_then size (scan_io size First) (λ a. then' (scan_io size Second) (λ b. recover_io size a b)) d (fair_slot First) (subst (λ (r : Ran Scanned). Fair size (then' (scan_io size Second) (λ b. recover_io size r.value b)) r.device) (sym (scan_is size n array d off' First)) second'))

-- CALLS
module _ (size n : ℕ) (array : ℕ → List ℕ) (j : Journal) (d : Device) (o : On size n array j d) (large : guarded ≤ size) (fits : size ≤ 1099511627776) where
  fair_get : (p : Place) → Fair size (get_io j p) d
  unfolding get_io
  fair_get p = go (in_area j.size p.0) refl
    where
      go : (b : Bool) → in_area j.size p.0 ≡ b → Fair size (cond b (read p.0 (λ b. answer (Ok b))) (answer (Err OutOfRange))) d
      go true e = let t = both (leb guarded p.0) (ltb p.0 j.size) (subst T (sym e) tt) in Fair.reads (omega (arith, ltb→lt p.0 j.size t.1, o.safe.size_is)) (Fair.ends _ _)
      go false e = Fair.ends _ _

  fair_put : (ws : List Write) → T (whole_sectors ws) → Fair size (put_io j ws) d
  unfolding put_io transact_io
  fair_put ws s = go (allowed j.size ws) refl (ltb j.next 4611686018427387904) refl
    where
      slot_low : (slot : Slot) → base slot + slot_sectors ≤ size
      slot_low First = omega arith
      slot_low Second = omega arith

      go : (a : Bool) → allowed j.size ws ≡ a → (b : Bool) → ltb j.next 4611686018427387904 ≡ b →
          Fair size {A = Put'} (cond a (cond b (then' (then' (write_all_io (record_of (base j.slot) j.next ws)) (λ _. sync (write_all_io ws))) (λ _. answer (record { outcome = Ok tt; journal = after_put j }))) (answer (record { outcome = Err NumbersUsedUp; journal = j }))) (answer (record { outcome = Err OutOfRange; journal = j }))) d
      go true e true q =
          let f = fine size ws (subst (λ (z : ℕ). T (allowed z ws)) o.safe.size_is (subst T (sym e) tt)) in
          fair_then size (then' (write_all_io (record_of (base j.slot) j.next ws)) (λ _. sync (write_all_io ws))) (λ _. answer (record { outcome = Ok tt; journal = after_put j })) d
          (fair_then size (write_all_io (record_of (base j.slot) j.next ws)) (λ _. sync (write_all_io ws)) d (fair_all size (record_of (base j.slot) j.next ws) d (good_record size (base j.slot) j.next ws (omega (arith, o.safe.above)) (ltb-true j.next 4611686018427387904 q) f.few f.area s fits 0 (2 * length ws) (omega arith) (slot_low j.slot)))
          (Fair.syncs (fair_all size ws _ (good-area size ws f.area s)))) (Fair.ends _ _)
      go true e false q = Fair.ends _ _
      go false e b q = Fair.ends _ _

  pub fair_call : (c : Call) → Fair size (call_io c (Ok j)) d
  unfolding call_io
  fair_call (Get p) = fair_then size (get_io j p) _ d (fair_get p) (Fair.ends _ _)
  fair_call (Put ws) = go (whole_sectors ws) refl
    where
      go : (b : Bool) → whole_sectors ws ≡ b → Fair size {A = record { reply : Reply; mem : Opened }} (cond b (then' (put_io j ws) (λ x. answer (record { reply = put_reply x.outcome; mem = Ok x.journal }))) (answer (record { reply = No 1; mem = Ok j }))) d
      go true e = fair_then size (put_io j ws) _ d (fair_put ws (subst T (sym e) tt)) (Fair.ends _ _)
      go false e = Fair.ends _ _

abbrev Stays : ℕ → Type 0
Stays size =
    ((es : List (Event Call Reply)) (d : Device) → Trace journal size es (off d) → Fair size (open_io size) d) × ((es : List (Event Call Reply)) (m : Opened) (d : Device) → Trace journal size es (on m d) → (c : Call) → Fair size (call_io c m) d)

pub journal-within : JournalWithin
journal-within size lo hi = go (leb guarded size) refl
  where
    on_call : guarded ≤ size → {es : List (Event Call Reply)} {d : Device} (m : Opened) → (a : Array) × Device.Allowed (array size) es a × Inv size hi (on m d) a → (c : Call) → Fair size (call_io c m) d
    on_call room (Ok j) (a, al, o) c = fair_call size a.steps a.sector j _ o room hi c
    on_call room (Err e) (a, al, o) c = absurd o

    go : (b : Bool) → leb guarded size ≡ b → Stays size
    go true e =
        let room = leb-true guarded size e in
        (λ es d tr. let (a, al, o) = held size hi room tr in fair_open size a.steps a.sector d o room, λ es m d tr c. on_call room m (held size hi room tr) c)
    go false e =
        let small = leb-false guarded size e in
        (λ es d tr. fair_open_small size small d, λ es m d tr c. let (a, al, q) = kept size small tr in fair_call_small size small c m d q)
