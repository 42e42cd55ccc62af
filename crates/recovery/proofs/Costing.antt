-- What transactions and opening cost, and what opening makes of any device.
use Rattle.std.proofs.Common.{◌≡◌, ℕ, zero, suc, ◌+◌, ◌*◌, ◌<◌, ◌≤◌, Bool, true, false, cond, T, eqb, ltb, leb, List, [], ◌∷◌, ◌++◌, length, sym, refl, ap, ◌∙◌, subst, arith, lt-ltb, ltb-true, leb-true, eqb-true, Ok, Err}
use borrow.Author.Tests.{eqb-false}
use Rattle.disks.specs.Device.{Device, Io, answer, read, write, sync, run, Ran, Upto, shown, written, synced, then'}
use Rattle.compose.proofs.Compose.{run_then}
use Rattle.journal.specs.Format.{slot_sectors, guarded, found, part_of, half_of, foreign}
use Rattle.journal.specs.Scans.{Scanned, scan_start, scan_on, scan_found, scanned, number_or_none, redo_count}
use Rattle.journal.specs.Programs.{base, other, in_area, allowed, write_all_io, record_from, record_of, transact_io, put_io, scan_from, scan_io, replay_from, redo_io, recover_io, slots_io, open_io, ready, Opened}
use Rattle.recovery.specs.Promises.{count, PutCosts, OpenCosts, OpensAgain, ForeignRefused, OursOpened}
use Rattle.journal.specs.declared.scan.Scan.{Scan}
use Rattle.journal.specs.declared.state.Write.{Write}
use Rattle.journal.specs.declared.state.Slot.{Slot}
use Rattle.journal.specs.declared.state.Slot.TheVariants.{First, Second}
use Rattle.journal.specs.declared.state.Journal.{Journal}
use Rattle.recovery.proofs.Scanning.{gathered, scanned_is}
use Rattle.recovery.proofs.Redoing.{slot_of, slot_run, redo_few, settle_io}
use Rattle.recovery.proofs.Opening.{opens, opens-cut}
use Rattle.recovery.proofs.Keeping.{held}
use Rattle.recovery.proofs.Room.{open_large}
use Rattle.octets.proofs.Numbers.{both}
use Rattle.recovery.proofs.Tests.{is_so}

pub count_then : {A B : Type 0} (r w s : ℕ) (p : Io A) (f : A → Io B) (d : Device) → count r w s (then' p f) d ≡ count r w s p d + count r w s (f (run p d).value) (run p d).device
unfolding count then' run
count_then r w s (answer a) f d = omega arith
count_then r w s (read n k) f d = let h = count_then r w s (k (shown d n)) f d in omega arith
count_then r w s (write n b p) f d = let h = count_then r w s p f (written n b d) in omega arith
count_then r w s (sync p) f d = let h = count_then r w s p f (synced d) in omega arith

count_all : (r w s : ℕ) (ws : List Write) (d : Device) → count r w s (write_all_io ws) d ≡ w * length ws
unfolding count write_all_io
count_all r w s [] d = omega arith
count_all r w s (x ∷ ws) d = let h = count_all r w s ws (written x.target.0 x.bytes d) in omega arith

record_long : (at n : ℕ) (ws : List Write) (i k : ℕ) → length (record_from at n ws i k) ≡ k
unfolding record_from
record_long at n ws i zero = refl
record_long at n ws i (suc k) = ap suc (record_long at n ws (i + 1) k)

count-put : (r w s : ℕ) (j : Journal) (ws : List Write) (d : Device) → T (allowed j.size ws) → j.next < 4611686018427387904 → count r w s (put_io j ws) d ≡ w * (2 * length ws) + (s + w * length ws)
unfolding put_io transact_io count
count-put r w s j ws d t l =
    let rec = record_of (base j.slot) j.next ws in
    let a = count_then r w s (write_all_io rec) (λ _. sync (write_all_io ws)) d in
    let b = count_all r w s rec d in
    let c = count_all r w s ws (synced (run (write_all_io rec) d).device) in
    let long = record_long (base j.slot) j.next ws 0 (2 * length ws) in
    let b' : count r w s (write_all_io rec) d ≡ w * (2 * length ws) = b ∙ ap (λ (k : ℕ). w * k) long in
    rw (is_so (allowed j.size ws) t, lt-ltb j.next 4611686018427387904 l) (count_then r w s (transact_io j ws) _ d ∙ omega arith)

pub put_costs : PutCosts
put_costs j ws d t l = (count-put 0 0 1 j ws d t l ∙ omega arith, count-put 0 1 0 j ws d t l ∙ omega arith, count-put 1 0 0 j ws d t l ∙ omega arith)

-- OPENING, on any device
count-scan : (size at i k : ℕ) (s : Scanned) (d : Device) → count 1 1 1 (scan_from size at i k s) d ≡ k
unfolding count scan_from
count-scan size at i zero s d = refl
count-scan size at i (suc k) s d = let h = count-scan size at (i + 1) k (scan_on size i (shown d (at + i)) s) d in omega arith

count_replay : (at i k : ℕ) (d : Device) → count 1 1 1 (replay_from at i k) d ≡ 3 * k
unfolding count replay_from
count_replay at i zero d = refl
count_replay at i (suc k) d =
    let h = count_replay at (i + 1) k (written (part_of (shown d (at + 2 * i))).target.0 (half_of (shown d (at + 2 * i)) ++ half_of (shown d (at + (2 * i + 1)))) d) in omega arith

count_redo : (o : Slot) (a b : Scan) (d : Device) → count 1 1 1 (redo_io o a b) d ≤ 9601
unfolding redo_io count
count_redo o a b d =
    let first = replay_from (base o) 0 (redo_count a) in
    let second = replay_from (base (other o)) 0 (redo_count b) in
    let x = count_then 1 1 1 first (λ _. then' second (λ _. settle_io)) d in
    let y = count_then 1 1 1 second (λ _. settle_io) (run first d).device in
    let p = count_replay (base o) 0 (redo_count a) d in
    let q = count_replay (base (other o)) 0 (redo_count b) (run first d).device in
    omega (arith, redo_few a, redo_few b)

count_recover : (size : ℕ) (a b : Scanned) (d : Device) → count 1 1 1 (recover_io size a b) d ≤ 9601
unfolding recover_io count
count_recover size (Err e) b d = omega arith
count_recover size (Ok a) (Err e) d = omega arith
count_recover size (Ok a) (Ok b) d = go (ltb (number_or_none b) (number_or_none a))
  where
    one : (o : Slot) (x y : Scan) → count {A = Opened} 1 1 1 (then' (redo_io o x y) (λ _. answer (Ok (ready size o x y)))) d ≤ 9601
    one o x y = let c = count_then {B = Opened} 1 1 1 (redo_io o x y) (λ _. answer (Ok (ready size o x y))) d in omega (arith, count_redo o x y d)

    go : (v : Bool) → count {A = Opened} 1 1 1 (cond v (then' (redo_io Second b a) (λ _. answer (Ok (ready size Second b a)))) (then' (redo_io First a b) (λ _. answer (Ok (ready size First a b))))) d ≤ 9601
    go true = one Second b a
    go false = one First a b

count_slots : (size : ℕ) (d : Device) → count 1 1 1 (slots_io size) d ≤ 16001
count_slots size d =
    let x = count_then 1 1 1 (scan_io size First) (λ a. then' (scan_io size Second) (λ b. recover_io size a b)) d in
    let a = (run (scan_io size First) d).value in
    let e = (run (scan_io size First) d).device in
    let y = count_then 1 1 1 (scan_io size Second) (λ b. recover_io size a b) e in
    let p = count-scan size (base First) 0 slot_sectors (Ok scan_start) d in
    let q = count-scan size (base Second) 0 slot_sectors (Ok scan_start) e in
    let z = count_recover size a (run (scan_io size Second) e).value (run (scan_io size Second) e).device in
    omega arith

pub open_costs : OpenCosts
unfolding open_io count
open_costs size d = go (leb guarded size)
  where
    go : (b : Bool) → count {A = Opened} 1 1 1 (cond b (slots_io size) (answer (Err foreign))) d ≤ 16001
    go true = count_slots size d
    go false = omega arith

-- AGAIN
pub opens-again : OpensAgain
opens-again size lo hi es d tr e f up cut s t =
    let room = in_room s t in
    let (a, al, o) = held size hi room tr in
    let (j, q, on') = opens size a.steps a.sector d o in
    let (j', q', on'') = opens size a.steps a.sector f (opens-cut size a.steps a.sector d o a.steps e f (omega arith) (subst (λ (p : Io Opened). Upto p d e) (open_large size room) up) cut) in
    subst (λ (p : Io Opened). shown (run p f).device s ≡ shown (run p d).device s) (sym (open_large size room)) (on''.shows s t ∙ sym (on'.shows s t))
  where
    in_room : (s : ℕ) → T (in_area size s) → guarded ≤ size
    in_room s t = let x = both (leb guarded s) (ltb s size) t in omega (arith, leb-true guarded s (is_so (leb guarded s) x.0), ltb-true s size (is_so (ltb s size) x.1))

-- FOREIGN: once seen, it is remembered
is_foreign : (size : ℕ) (g : ℕ → List ℕ) (i k : ℕ) → i < k → found size i (g i) ≡ Err foreign → scanned size g k ≡ Err foreign
unfolding scanned scan_found
is_foreign size g i zero l e = absurd (omega arith)
is_foreign size g i (suc k) l e = go (eqb i k) refl (λ m. is_foreign size g i k m e)
  where
    here : (r : Scanned) → found size k (g k) ≡ Err foreign → scan_on size k (g k) r ≡ Err foreign
    here (Ok s) q = rw q
    here (Err f) q = refl

    go : (b : Bool) → eqb i k ≡ b → (i < k → scanned size g k ≡ Err foreign) → scan_on size k (g k) (scanned size g k) ≡ Err foreign
    go true q before = here (scanned size g k) (subst (λ (z : ℕ). found size z (g z) ≡ Err foreign) (eqb-true i k q) e)
    go false q before = ap (λ (r : Scanned). scan_on size k (g k) r) (before (omega (arith, eqb-false i k q)))

module _ (size : ℕ) (d : Device) where
  abbrev scan : Slot → Scanned
  scan slot = scanned size (slot_of d slot) slot_sectors

  recover_run : run (slots_io size) d ≡ run (recover_io size (scan First) (scan Second)) d
  unfolding run
  recover_run =
      run_then (scan_io size First) (λ a. then' (scan_io size Second) (λ b. recover_io size a b)) d
      ∙ ap (λ (r : Ran Scanned). run (then' (scan_io size Second) (λ b. recover_io size r.value b)) r.device) (slot_run size d First)
      ∙ run_then (scan_io size Second) (λ b. recover_io size (scan First) b) d
      ∙ ap (λ (r : Ran Scanned). run (recover_io size (scan First) r.value) r.device) (slot_run size d Second)

  refused : (slot : Slot) → scan slot ≡ Err foreign → run (slots_io size) d ≡ record { value = Err foreign; device = d }
  unfolding recover_io run
  refused First e = recover_run ∙ ap (λ (r : Scanned). run (recover_io size r (scan Second)) d) e
  refused Second e = recover_run ∙ ap (λ (r : Scanned). run (recover_io size (scan First) r) d) e ∙ go (scan First)
    where
      go : (r : Scanned) → run (recover_io size r (Err foreign)) d ≡ record { value = Err foreign; device = d }
      go (Ok a) = refl
      go (Err f) = refl

  accepted : (a b : Scan) → scan First ≡ Ok a → scan Second ≡ Ok b → (j : Journal) × ((run (slots_io size) d).value ≡ Ok j)
  unfolding recover_io run
  accepted a b p q =
      let x = go (ltb (number_or_none b) (number_or_none a)) in
      (x.0, ap (λ (r : Ran Opened). r.value) (recover_run ∙ ap (λ (r : Scanned). run (recover_io size r (scan Second)) d) p ∙ ap (λ (r : Scanned). run (recover_io size (Ok a) r) d) q) ∙ x.1)
    where
      go : (v : Bool) → (j : Journal) × ((run {A = Opened} (cond v (then' (redo_io Second b a) (λ _. answer (Ok (ready size Second b a)))) (then' (redo_io First a b) (λ _. answer (Ok (ready size First a b))))) d).value ≡ Ok j)
      go true = (ready size Second b a, ap (λ (r : Ran Opened). r.value) (run_then (redo_io Second b a) (λ _. answer (Ok (ready size Second b a))) d))
      go false = (ready size First a b, ap (λ (r : Ran Opened). r.value) (run_then (redo_io First a b) (λ _. answer (Ok (ready size First a b))) d))

pub foreign_refused : ForeignRefused
unfolding open_io run
foreign_refused size d slot i l e = go (leb guarded size)
  where
    go : (b : Bool) → run {A = Opened} (cond b (slots_io size) (answer (Err foreign))) d ≡ record { value = Err foreign; device = d }
    go true = refused size d slot (is_foreign size (slot_of d slot) i slot_sectors l e)
    go false = refl

pub ours-opened : OursOpened
ours-opened size d room no' =
    subst (λ (p : Io Opened). (j : Journal) × ((run p d).value ≡ Ok j)) (sym (open_large size room))
    (accepted size d (gathered size (slot_of d First) slot_sectors) (gathered size (slot_of d Second) slot_sectors) (scanned_is size (slot_of d First) slot_sectors (no' First)) (scanned_is size (slot_of d Second) slot_sectors (no' Second)))
