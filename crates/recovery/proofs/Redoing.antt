-- Opening: scans only read, and doing a record again writes its sectors in place, as the record's writes would.
use Rattle.std.proofs.Common.{◌≡◌, ℕ, zero, suc, ◌+◌, ◌*◌, ◌/◌, ◌<◌, ◌≤◌, Bool, true, false, cond, ◌&&◌, T, ltb, leb, ◌≢◌, ◌⊎◌, List, [], ◌∷◌, ◌++◌, sym, refl, ap, ◌∙◌, subst, inl, inr, add-zero, add-one, arith, le→leb, lt→ltb, ne_eqb, leb-true, Some, None, Option}
use Rattle.disks.specs.Device.{Device, Io, answer, sync, run, Ran, Upto, here, reads, writes, syncs, shown, written, synced, then'}
use Rattle.compose.proofs.Compose.{run_then, upto_then}
use Rattle.journal.specs.Format.{most_writes, slot_sectors, guarded, part_of, half_of}
use Rattle.journal.specs.Scans.{Scanned, scan_on, scanned, count_of, redo_count, write_at, writes_from}
use Rattle.journal.specs.Programs.{base, other, write_all_io, all_in_area, scan_from, scan_io, replay_from, redo_io}
use Rattle.journal.specs.declared.part.Part.{Part}
use Rattle.journal.specs.declared.scan.Record.{Record}
use Rattle.journal.specs.declared.scan.Scan.{Scan}
use Rattle.journal.specs.declared.state.Write.{Write}
use Rattle.journal.specs.declared.state.Slot.{Slot}
use Rattle.journal.specs.declared.state.Slot.TheVariants.{First, Second}
use Rattle.recovery.proofs.Lasts.{below-area}
use Rattle.recovery.proofs.Writing.{alike_shown, upto_other, all_upto, written_other}
use Rattle.recovery.proofs.Sound.{found_is}
use Rattle.recovery.proofs.Scanning.{Ours, Whole, whole_found, gathered}
use Rattle.recovery.proofs.Mixing.{writes_in, none-writes, whole-count}
use Rattle.octets.proofs.Numbers.{both, join}
use Rattle.recovery.proofs.Tests.{is_so}

-- SCANS
pub scan_run : (size at : ℕ) (d : Device) (i k : ℕ) → run (scan_from size at i k (scanned size (λ q. shown d (at + q)) i)) d ≡ record { value = scanned size (λ q. shown d (at + q)) (i + k); device = d }
unfolding scan_from run scanned
scan_run size at d i zero = rw add-zero
scan_run size at d i (suc k) =
    let e : i + 1 + k ≡ i + suc k = omega arith in
    let s : scan_on size i (shown d (at + i)) (scanned size (λ q. shown d (at + q)) i) ≡ scanned size (λ q. shown d (at + q)) (i + 1) = rw add-one in
    ap (λ (x : Scanned). run (scan_from size at (i + 1) k x) d) s ∙ scan_run size at d (i + 1) k ∙ ap (λ (x : ℕ). record { value = scanned size (λ q. shown d (at + q)) x; device = d }) e

pub scan_upto : (size at i k : ℕ) (s : Scanned) (d e : Device) → Upto (scan_from size at i k s) d e → e ≡ d
unfolding scan_from
scan_upto size at i zero s d e here = refl
scan_upto size at i (suc k) s d e here = refl
scan_upto size at i (suc k) s d e (reads u) = scan_upto size at (i + 1) k (scan_on size i (shown d (at + i)) s) d e u

-- WRITES one behind the other
pub all_append : (xs ys : List Write) (d : Device) → run (write_all_io (xs ++ ys)) d ≡ run (write_all_io ys) (run (write_all_io xs) d).device
unfolding write_all_io run
all_append [] ys d = refl
all_append (x ∷ xs) ys d = all_append xs ys (written x.target.0 x.bytes d)

pub upto_front : (xs ys : List Write) (d e : Device) → Upto (write_all_io xs) d e → Upto (write_all_io (xs ++ ys)) d e
unfolding write_all_io
upto_front [] ys d e here = here
upto_front (x ∷ xs) ys d e here = here
upto_front (x ∷ xs) ys d e (writes u) = writes (upto_front xs ys (written x.target.0 x.bytes d) e u)

pub upto_behind : (xs ys : List Write) (d e : Device) → Upto (write_all_io ys) (run (write_all_io xs) d).device e → Upto (write_all_io (xs ++ ys)) d e
unfolding write_all_io run
upto_behind [] ys d e u = u
upto_behind (x ∷ xs) ys d e u = writes (upto_behind xs ys (written x.target.0 x.bytes d) e u)

-- REPLAYS: as the record's writes
module _ (size at : ℕ) (g : ℕ → List ℕ) where
  -- after one write in the guarded area the journal shows the same
  pub apart_from : (w : Write) (ws : List Write) (d : Device) (i k : ℕ) → at + 2 * (i + k) ≤ guarded → T (all_in_area size (w ∷ ws)) → ((q : ℕ) → q < 2 * (i + k) → shown d (at + q) ≡ g q) → (q : ℕ) → q < 2 * (i + k) → shown (written w.target.0 w.bytes d) (at + q) ≡ g q
  unfolding all_in_area
  apart_from w ws d i k fits area same q l =
      let a = both (leb guarded w.target.0 && ltb w.target.0 size) (all_in_area size ws) area in
      let b = leb-true guarded w.target.0 (is_so (leb guarded w.target.0) (both (leb guarded w.target.0) (ltb w.target.0 size) a.0).0) in
      let ne : at + q ≢ w.target.0 = omega arith in
      alike_shown (written_other w.target.0 w.bytes d (at + q) (ne_eqb (at + q) w.target.0 ne)) ∙ same q l

  pub further : (w : Write) (ws : List Write) → T (all_in_area size (w ∷ ws)) → T (all_in_area size ws)
  unfolding all_in_area
  further w ws t = (both (leb guarded w.target.0 && ltb w.target.0 size) (all_in_area size ws) t).1

  -- the write that a turn makes is the record's
  turn : {X : Type 0} (F : ℕ → List ℕ → X) (d : Device) (i : ℕ) → shown d (at + 2 * i) ≡ g (2 * i) → shown d (at + (2 * i + 1)) ≡ g (2 * i + 1) →
      F (part_of (shown d (at + 2 * i))).target.0 (half_of (shown d (at + 2 * i)) ++ half_of (shown d (at + (2 * i + 1)))) ≡ F (write_at g i).target.0 (write_at g i).bytes
  turn F d i a b = ap (λ (x : List ℕ). F (part_of x).target.0 (half_of x ++ half_of (shown d (at + (2 * i + 1))))) a ∙ ap (λ (x : List ℕ). F (part_of (g (2 * i))).target.0 (half_of (g (2 * i)) ++ half_of x)) b

  pub replay_run : (i k : ℕ) (d : Device) → at + 2 * (i + k) ≤ guarded → T (all_in_area size (writes_from g i k)) → ((q : ℕ) → q < 2 * (i + k) → shown d (at + q) ≡ g q) → run (replay_from at i k) d ≡ run (write_all_io (writes_from g i k)) d
  unfolding replay_from write_all_io writes_from run
  replay_run i zero d fits area same = refl
  replay_run i (suc k) d fits area same =
      turn (λ t b. run (replay_from at (i + 1) k) (written t b d)) d i (same (2 * i) (omega arith)) (same (2 * i + 1) (omega arith))
      ∙ replay_run (i + 1) k (written (write_at g i).target.0 (write_at g i).bytes d) (omega arith) (further (write_at g i) (writes_from g (i + 1) k) area) (λ q l. apart_from (write_at g i) (writes_from g (i + 1) k) d i (suc k) fits area same q (omega arith))

  pub replay_upto : (i k : ℕ) (d e : Device) → at + 2 * (i + k) ≤ guarded → T (all_in_area size (writes_from g i k)) → ((q : ℕ) → q < 2 * (i + k) → shown d (at + q) ≡ g q) → Upto (replay_from at i k) d e → Upto (write_all_io (writes_from g i k)) d e
  unfolding replay_from write_all_io writes_from
  replay_upto i zero d e fits area same here = here
  replay_upto i (suc k) d e fits area same here = here
  replay_upto i (suc k) d e fits area same (reads here) = here
  replay_upto i (suc k) d e fits area same (reads (reads here)) = here
  replay_upto i (suc k) d e fits area same (reads (reads (writes u))) =
      let v = subst (λ (x : List ℕ). Upto (replay_from at (i + 1) k) (written (part_of (g (2 * i))).target.0 (half_of (g (2 * i)) ++ half_of x) d) e) (same (2 * i + 1) (omega arith)) (subst (λ (x : List ℕ). Upto (replay_from at (i + 1) k) (written (part_of x).target.0 (half_of x ++ half_of (shown d (at + (2 * i + 1)))) d) e) (same (2 * i) (omega arith)) u) in
      writes (replay_upto (i + 1) k (written (write_at g i).target.0 (write_at g i).bytes d) e (omega arith) (further (write_at g i) (writes_from g (i + 1) k) area) (λ q l. apart_from (write_at g i) (writes_from g (i + 1) k) d i (suc k) fits area same q (omega arith)) v)

-- the writes of a record that is all there lie in the guarded area
pub in_area_lem : (size : ℕ) (g : ℕ → List ℕ) (n len i k : ℕ) → Whole size g n len → 2 * (i + k) ≤ len → T (all_in_area size (writes_from g i k))
unfolding writes_from all_in_area
in_area_lem size g n len i zero w l = tt
in_area_lem size g n len i (suc k) w l =
    let (p, f, a, b) = w.each (2 * i) (omega arith) in
    let s = found_is size (2 * i) (g (2 * i)) p f in
    let same : p.target.0 ≡ (part_of (g (2 * i))).target.0 = ap (λ (x : Part). x.target.0) s.0 in
    join (leb guarded (part_of (g (2 * i))).target.0 && ltb (part_of (g (2 * i))).target.0 size) (all_in_area size (writes_from g (i + 1) k))
    (join (leb guarded (part_of (g (2 * i))).target.0) (ltb (part_of (g (2 * i))).target.0 size) (le→leb guarded (part_of (g (2 * i))).target.0 (omega (arith, s.1.guarded, same))) (lt→ltb (part_of (g (2 * i))).target.0 size (omega (arith, s.1.within, same))))
    (in_area_lem size g n len (i + 1) k w (omega arith))

pub found_in_area : (size most : ℕ) (g : ℕ → List ℕ) → ((i : ℕ) → i < slot_sectors → Ours size most i (g i)) → T (all_in_area size (writes_in size g))
unfolding all_in_area
found_in_area size most g ours = go (gathered size g slot_sectors).whole refl
  where
    nothing : T (all_in_area size [])
    nothing = tt

    go : (x : Option Record) → (gathered size g slot_sectors).whole ≡ x → T (all_in_area size (writes_in size g))
    go (Some r) e =
        let n = r.number in
        let len = r.length in
        let w = whole_found size g most ours r e in
        subst (λ (k : ℕ). T (all_in_area size (writes_from g 0 k))) (sym (whole-count size g n len w)) (in_area_lem size g n len 0 (len / 2) w (omega arith))
    go None e = subst (λ (ws : List Write). T (all_in_area size ws)) (sym (none-writes size g e)) nothing

pub redo_few : (s : Scan) → redo_count s ≤ most_writes
redo_few s = go s.whole
  where
    fits : (len : ℕ) (x : Bool) → leb len slot_sectors ≡ x → cond x (len / 2) 0 ≤ most_writes
    fits len true e = omega (arith, leb-true len slot_sectors e)
    fits len false e = omega arith

    go : (o : Option Record) → count_of o ≤ most_writes
    go None = omega arith
    go (Some r) = fits r.length (leb r.length slot_sectors) refl

-- both slots' contents
abbrev pub slot_of : Device → Slot → ℕ → List ℕ
slot_of d slot q = shown d (base slot + q)

pub slot_low : (slot : Slot) (q : ℕ) → q < slot_sectors → base slot + q < guarded
slot_low First q l = omega arith
slot_low Second q l = omega arith

-- a record lies within its slot
pub slot_room : (slot : Slot) (s : Scan) → base slot + 2 * (0 + redo_count s) ≤ guarded
slot_room First s = omega (arith, redo_few s)
slot_room Second s = omega (arith, redo_few s)

pub slot_run : (size : ℕ) (d : Device) (slot : Slot) → run (scan_io size slot) d ≡ record { value = scanned size (slot_of d slot) slot_sectors; device = d }
unfolding scanned
slot_run size d slot = scan_run size (base slot) d 0 slot_sectors

abbrev pub settle_io : Io (Unit {0})
settle_io = sync (answer tt)

-- DOING AGAIN what two slots hold, the older first
module _ (size most : ℕ) (d : Device) (ours : (slot : Slot) (i : ℕ) → i < slot_sectors → Ours size most i (slot_of d slot i)) (older : Slot) where
  abbrev pub redone : List Write
  redone = writes_in size (slot_of d older) ++ writes_in size (slot_of d (other older))

  abbrev first : Device
  first = (run (write_all_io (writes_in size (slot_of d older))) d).device

  -- the second slot shows the same after the first is done
  pub same_after : (q : ℕ) → q < slot_sectors → slot_of first (other older) q ≡ slot_of d (other older) q
  same_after q l = alike_shown (upto_other (writes_in size (slot_of d older)) d first (base (other older) + q) (below-area size (writes_in size (slot_of d older)) (base (other older) + q) (found_in_area size most (slot_of d older) (ours older)) (slot_low (other older) q l)) (all_upto (writes_in size (slot_of d older)) d))

  pub one_run : run (replay_from (base older) 0 (redo_count (gathered size (slot_of d older) slot_sectors))) d ≡ run (write_all_io (writes_in size (slot_of d older))) d
  one_run = replay_run size (base older) (slot_of d older) 0 _ d (slot_room older (gathered size (slot_of d older) slot_sectors)) (found_in_area size most (slot_of d older) (ours older)) (λ q l. refl)

  two_run : run (replay_from (base (other older)) 0 (redo_count (gathered size (slot_of d (other older)) slot_sectors))) first ≡ run (write_all_io (writes_in size (slot_of d (other older)))) first
  two_run = replay_run size (base (other older)) (slot_of d (other older)) 0 _ first (slot_room (other older) (gathered size (slot_of d (other older)) slot_sectors)) (found_in_area size most (slot_of d (other older)) (ours (other older))) (λ q l. same_after q (omega (arith, redo_few (gathered size (slot_of d (other older)) slot_sectors))))

  abbrev pub all_done : Device
  all_done = (run (write_all_io redone) d).device

  -- to the end: all writes are done, and a sync
  pub redo_run : run (redo_io older (gathered size (slot_of d older) slot_sectors) (gathered size (slot_of d (other older)) slot_sectors)) d ≡ record { value = tt; device = synced all_done }
  unfolding redo_io run
  redo_run =
      run_then (replay_from (base older) 0 (redo_count (gathered size (slot_of d older) slot_sectors))) (λ _. then' (replay_from (base (other older)) 0 (redo_count (gathered size (slot_of d (other older)) slot_sectors))) (λ _. settle_io)) d
      ∙ ap (λ (x : Ran (Unit {0})). run (then' (replay_from (base (other older)) 0 (redo_count (gathered size (slot_of d (other older)) slot_sectors))) (λ _. settle_io)) x.device) one_run
      ∙ run_then (replay_from (base (other older)) 0 (redo_count (gathered size (slot_of d (other older)) slot_sectors))) (λ _. settle_io) first
      ∙ ap (λ (x : Ran (Unit {0})). record { value = tt; device = synced x.device }) two_run
      ∙ ap (λ (x : Ran (Unit {0})). record { value = tt; device = synced x.device }) (sym (all_append (writes_in size (slot_of d older)) (writes_in size (slot_of d (other older))) d))

  -- cut: some of the writes are done, or all, and synced
  pub redo_upto : (e : Device) → Upto (redo_io older (gathered size (slot_of d older) slot_sectors) (gathered size (slot_of d (other older)) slot_sectors)) d e → Upto (write_all_io redone) d e ⊎ (e ≡ synced all_done)
  unfolding redo_io run
  redo_upto e u =
      elim (upto_then (replay_from (base older) 0 (redo_count (gathered size (slot_of d older) slot_sectors))) (λ _. then' (replay_from (base (other older)) 0 (redo_count (gathered size (slot_of d (other older)) slot_sectors))) (λ _. settle_io)) d e u) [
        | inl v ↦ inl (upto_front (writes_in size (slot_of d older)) (writes_in size (slot_of d (other older))) d e (replay_upto size (base older) (slot_of d older) 0 _ d e (slot_room older (gathered size (slot_of d older) slot_sectors)) (found_in_area size most (slot_of d older) (ours older)) (λ q l. refl) v))
        | inr v ↦ later (subst (λ (x : Ran (Unit {0})). Upto (then' (replay_from (base (other older)) 0 (redo_count (gathered size (slot_of d (other older)) slot_sectors))) (λ _. settle_io)) x.device e) one_run v)
      ]
    where
      ended : (x f : Device) → x ≡ all_done → Upto settle_io x f → Upto (write_all_io redone) d f ⊎ (f ≡ synced all_done)
      ended x f q here = inl (subst (λ (y : Device). Upto (write_all_io redone) d y) (sym q) (all_upto redone d))
      ended x f q (syncs here) = inr (ap synced q)

      later : Upto (then' (replay_from (base (other older)) 0 (redo_count (gathered size (slot_of d (other older)) slot_sectors))) (λ _. settle_io)) first e → Upto (write_all_io redone) d e ⊎ (e ≡ synced all_done)
      later v =
          elim (upto_then (replay_from (base (other older)) 0 (redo_count (gathered size (slot_of d (other older)) slot_sectors))) (λ _. settle_io) first e v) [
            | inl z ↦ inl (upto_behind (writes_in size (slot_of d older)) (writes_in size (slot_of d (other older))) d e (replay_upto size (base (other older)) (slot_of d (other older)) 0 _ first e (slot_room (other older) (gathered size (slot_of d (other older)) slot_sectors)) (found_in_area size most (slot_of d (other older)) (ours (other older))) (λ q l. same_after q (omega (arith, redo_few (gathered size (slot_of d (other older)) slot_sectors)))) z))
            | inr z ↦ ended (run (replay_from (base (other older)) 0 (redo_count (gathered size (slot_of d (other older)) slot_sectors))) first).device e (ap (λ (x : Ran (Unit {0})). x.device) (two_run ∙ sym (all_append (writes_in size (slot_of d older)) (writes_in size (slot_of d (other older))) d))) z
          ]
