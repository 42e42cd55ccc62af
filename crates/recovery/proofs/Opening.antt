-- Opening: from a device with the power off it leaves the journal on, with the same array; cut anywhere, it leaves a device from which it can
-- be opened again, with the same array.
use Rattle.std.proofs.Common.{◌≡◌, ℕ, ◌+◌, ◌<◌, ◌≤◌, Bool, true, false, T, eqb, ltb, ◌⊎◌, List, ◌++◌, sym, refl, ap, ◌∙◌, subst, inl, inr, arith, ltb-false, ltb-true, lt-ltb, eqb-true, Ok, Some}
use borrow.Author.Tests.{eqb-false}
use Rattle.std.proofs.lemmas.Bool.{or_from}
use Rattle.std.proofs.lemmas.List.Folds.{list_any-append}
use Rattle.disks.specs.Device.{Device, Io, answer, run, Ran, Upto, here, shown, latest, synced, then', AfterCut}
use Rattle.compose.proofs.Compose.{run_then, upto_then, upto_map}
use Rattle.journal.specs.Scans.{Scanned, scan_start, higher}
use Rattle.journal.specs.Programs.{base, other, in_area, named, write_all_io, scan_io, redo_io, recover_io, slots_io, ready, Opened}
use Rattle.recovery.specs.Machines.{last}
use Rattle.journal.specs.Format.{slot_sectors, found}
use Rattle.journal.specs.declared.part.Part.{Part}
use Rattle.journal.specs.declared.scan.Scan.{Scan}
use Rattle.journal.specs.declared.state.Write.{Write}
use Rattle.journal.specs.declared.state.Slot.{Slot}
use Rattle.journal.specs.declared.state.Slot.TheVariants.{First, Second}
use Rattle.journal.specs.declared.state.Journal.{Journal}
use Rattle.recovery.proofs.Lasts.{last-append, last-again, last_same, below-area}
use Rattle.recovery.proofs.Writing.{alike_shown, upto_other, all_upto, all_shown}
use Rattle.recovery.proofs.Sound.{found_is}
use Rattle.recovery.proofs.Scanning.{Ours, scanned_is, not_foreign, seen, high_left, high_right, high_most, gathered}
use Rattle.recovery.proofs.Mixing.{number_in, writes_in}
use Rattle.recovery.proofs.Redoing.{slot_of, slot_low, slot_run, scan_upto, redone, all_done, redo_run, redo_upto, found_in_area}
use Rattle.recovery.proofs.Inv.{Can, IsSector, redone_with, Off, On, ours_more, writes_in_cong, redone-by, can-cut, can-quiet}
use Rattle.recovery.proofs.Cutting.{Order, per_slot, off_of, order_cong, both_cong, rest-cut}

-- writes of both slots stay in the guarded area
area-append : (xs ys : List Write) (s : ℕ) → named s xs ≡ false → named s ys ≡ false → named s (xs ++ ys) ≡ false
unfolding named
area-append xs ys s a b = list_any-append (λ (w : Write). eqb s w.target.0) xs ys ∙ or_from (named s xs) (named s ys) a b

module _ (size n : ℕ) (array : ℕ → List ℕ) (d : Device) (off : Off size n array d) where
  -- numbers stay below the limit by themselves
  few : (slot : Slot) (i : ℕ) → i < slot_sectors → Ours size 4611686018427387903 i (slot_of d slot i)
  few slot i l = go (off.ours slot i l)
    where
      go : Ours size n i (slot_of d slot i) → Ours size 4611686018427387903 i (slot_of d slot i)
      go (inl e) = inl e
      go (inr q) = let (p, e, k) = q in let s = (found_is size i (slot_of d slot i) p e).1 in inr (p, e, omega (arith, s.below))

  -- with the older record in this slot
  module _ (o : Slot) (order : Order size (slot_of d) o) (by : redone_with size (slot_of d) ≡ writes_in size (slot_of d o) ++ writes_in size (slot_of d (other o))) where
    abbrev again : List Write
    again = redone size n d off.ours o

    not_journal : (slot : Slot) (i : ℕ) → i < slot_sectors → named (base slot + i) again ≡ false
    not_journal slot i l = area-append (writes_in size (slot_of d o)) (writes_in size (slot_of d (other o))) (base slot + i) (below-area size (writes_in size (slot_of d o)) (base slot + i) (found_in_area size n (slot_of d o) (off.ours o)) (slot_low slot i l)) (below-area size (writes_in size (slot_of d (other o))) (base slot + i) (found_in_area size n (slot_of d (other o)) (off.ours (other o))) (slot_low slot i l))

    value : (s : ℕ) → T (in_area size s) → last again (shown d s) s ≡ array s
    value s t = ap (λ (ws : List Write). last ws (shown d s) s) (sym by) ∙ off.holds s t

    -- cut while writes are done again
    pub redo_cut : (m : ℕ) (e f : Device) → n ≤ m → Upto (write_all_io again) d e → AfterCut e f → Off size m array f
    redo_cut m e f more up c =
        off_of size m array f o c.nothing (λ slot i l. subst (Ours size m i) (sym (same slot i l)) (ours_more size n m i (slot_of d slot i) more (off.ours slot i l))) (λ slot i l. subst IsSector (sym (same slot i l)) (off.bytes slot i l)) (order_cong size (slot_of d) (slot_of f) same o order)
        (λ s t. ap (λ (ws : List Write). last ws (shown f s) s) (both_cong size (slot_of d) (slot_of f) same o) ∙ last_same again (shown f s) (shown d s) s (λ un. unchanged s un) ∙ value s t)
      where
        unchanged : (s : ℕ) → named s again ≡ false → shown f s ≡ shown d s
        unchanged s un = let a = upto_other again d e s un up in can-quiet e s (shown f s) (a.since ∙ off.clean s) (can-cut e f s c) ∙ alike_shown a

        same : (slot : Slot) (i : ℕ) → i < slot_sectors → slot_of f slot i ≡ slot_of d slot i
        same slot i l = unchanged (base slot + i) (not_journal slot i l)

    -- done
    abbrev opened : Device
    opened = synced (all_done size n d off.ours o)

    opened_same : (slot : Slot) (i : ℕ) → i < slot_sectors → slot_of opened slot i ≡ slot_of d slot i
    unfolding latest
    opened_same slot i l = alike_shown (upto_other again d (all_done size n d off.ours o) (base slot + i) (not_journal slot i l) (all_upto again d))

    opened_shown : (s : ℕ) → T (in_area size s) → shown opened s ≡ array s
    unfolding latest
    opened_shown s t = all_shown again d s ∙ value s t

    abbrev a : Scan
    a = gathered size (slot_of d o) slot_sectors

    abbrev b : Scan
    b = gathered size (slot_of d (other o)) slot_sectors

    highest_low : higher a.highest b.highest < 4611686018427387904
    highest_low =
        let x = seen size (slot_of d o) 4611686018427387903 slot_sectors (few o) in
        let y = seen size (slot_of d (other o)) 4611686018427387903 slot_sectors (few (other o)) in
        let z = high_most a.highest b.highest 4611686018427387903 x.below y.below in
        omega arith

    next_is : (ready size o a b).next ≡ higher a.highest b.highest + 1
    next_is = rw (lt-ltb (higher a.highest b.highest) 4611686018427387904 highest_low)

    pub open_on : On size n array (ready size o a b) opened
    unfolding latest
    open_on =
        let x = seen size (slot_of d o) n slot_sectors (off.ours o) in
        let y = seen size (slot_of d (other o)) n slot_sectors (off.ours (other o)) in
        record {
          safe =
              record {
                size_is = refl;
                most = higher a.highest b.highest;
                above = omega (arith, next_is);
                low = let z = high_most a.highest b.highest n x.below y.below in omega (arith, next_is);
                quiet = λ slot i l. refl;
                ours = λ slot i l. subst (Ours size (higher a.highest b.highest) i) (sym (opened_same slot i l)) (per_slot (λ z. (k : ℕ) → k < slot_sectors → Ours size (higher a.highest b.highest) k (slot_of d z k)) o (λ k m. raised o a.highest k m (high_left a.highest b.highest) (x.above k) (off.ours o k m)) (λ k m. raised (other o) b.highest k m (high_right a.highest b.highest) (y.above k) (off.ours (other o) k m)) slot i l);
                bytes = λ slot i l. subst IsSector (sym (opened_same slot i l)) (off.bytes slot i l);
                by-new = λ s z t can. ap (λ (ws : List Write). last ws z s) (writes_in_cong size (slot_of opened (other o)) (slot_of d (other o)) (opened_same (other o))) ∙ ap (λ (q : List ℕ). last (writes_in size (slot_of d (other o))) q s) (settled s z t can) ∙ new-again s t;
                by_both = λ s z t can. ap (λ (ws : List Write). last ws z s) (both_cong size (slot_of d) (slot_of opened) opened_same o) ∙ ap (λ (q : List ℕ). last again q s) (settled s z t can ∙ sym (value s t)) ∙ last-again again (shown d s) s ∙ value s t;
                order = order_cong size (slot_of d) (slot_of opened) opened_same o order;
              };
          shows = opened_shown;
        }
      where
        settled : (s : ℕ) (z : List ℕ) → T (in_area size s) → Can opened s z → z ≡ array s
        settled s z t can = can-quiet opened s z refl can ∙ opened_shown s t

        new-again : (s : ℕ) → T (in_area size s) → last (writes_in size (slot_of d (other o))) (array s) s ≡ array s
        new-again s t =
            let was : array s ≡ last (writes_in size (slot_of d (other o))) (last (writes_in size (slot_of d o)) (shown d s) s) s = sym (value s t) ∙ last-append (writes_in size (slot_of d o)) (writes_in size (slot_of d (other o))) (shown d s) s in
            ap (λ (q : List ℕ). last (writes_in size (slot_of d (other o))) q s) was ∙ last-again (writes_in size (slot_of d (other o))) (last (writes_in size (slot_of d o)) (shown d s) s) s ∙ sym was

        raised : (slot : Slot) (top k : ℕ) → k < slot_sectors → top ≤ higher a.highest b.highest → ((p : Part) → k < slot_sectors → found size k (slot_of d slot k) ≡ Ok (Some p) → p.number ≤ top) → Ours size n k (slot_of d slot k) → Ours size (higher a.highest b.highest) k (slot_of d slot k)
        raised slot top k m h up (inl e) = inl e
        raised slot top k m h up (inr q) = let (p, e, l) = q in inr (p, e, omega (arith, up p m e))

  -- which slot has the older record
  pub data Older : Slot → Type 0 where
    second : ltb (number_in size (slot_of d Second)) (number_in size (slot_of d First)) ≡ true → Older Second
    first : ltb (number_in size (slot_of d Second)) (number_in size (slot_of d First)) ≡ false → Older First

  pub in_order : (o : Slot) → Older o → Order size (slot_of d) o × (redone_with size (slot_of d) ≡ writes_in size (slot_of d o) ++ writes_in size (slot_of d (other o)))
  in_order Second (second e) = let l = ltb-true (number_in size (slot_of d Second)) (number_in size (slot_of d First)) e in (inl l, redone-by size (slot_of d) Second l)
  in_order First (first e) = go (eqb (number_in size (slot_of d First)) (number_in size (slot_of d Second))) refl
    where
      go : (x : Bool) → eqb (number_in size (slot_of d First)) (number_in size (slot_of d Second)) ≡ x → Order size (slot_of d) First × (redone_with size (slot_of d) ≡ writes_in size (slot_of d First) ++ writes_in size (slot_of d Second))
      go true q = let z = off.differ (eqb-true (number_in size (slot_of d First)) (number_in size (slot_of d Second)) q) in (inr z, rw e)
      go false q = (inl (omega (arith, eqb-false (number_in size (slot_of d First)) (number_in size (slot_of d Second)) q, ltb-false (number_in size (slot_of d Second)) (number_in size (slot_of d First)) e)), rw e)

  -- THE PROGRAM: both scans read only
  abbrev scan : Slot → Scan
  scan slot = gathered size (slot_of d slot) slot_sectors

  pub scan_is : (slot : Slot) → run (scan_io size slot) d ≡ record { value = Ok (scan slot); device = d }
  scan_is slot = slot_run size d slot ∙ ap (λ (r : Scanned). record { value = r; device = d }) (scanned_is size (slot_of d slot) slot_sectors (λ i l. not_foreign size n i (slot_of d slot i) (off.ours slot i l)))

  -- what follows the scans
  abbrev rest : Slot → Io Opened
  rest o = then' (redo_io o (scan o) (scan (other o))) (λ _. answer (Ok (ready size o (scan o) (scan (other o)))))

  pub recover_is : (o : Slot) → Older o → recover_io size (Ok (scan First)) (Ok (scan Second)) ≡ rest o
  unfolding recover_io
  recover_is Second (second e) = rw e
  recover_is First (first e) = rw e

  pub open_run : (o : Slot) → Older o → run (slots_io size) d ≡ record { value = Ok (ready size o (scan o) (scan (other o))); device = synced (all_done size n d off.ours o) }
  unfolding run
  open_run o x =
      run_then (scan_io size First) (λ a. then' (scan_io size Second) (λ b. recover_io size a b)) d
      ∙ ap (λ (r : Ran Scanned). run (then' (scan_io size Second) (λ b. recover_io size r.value b)) r.device) (scan_is First)
      ∙ run_then (scan_io size Second) (λ b. recover_io size (Ok (scan First)) b) d
      ∙ ap (λ (r : Ran Scanned). run (recover_io size (Ok (scan First)) r.value) r.device) (scan_is Second)
      ∙ ap (λ (p : Io Opened). run p d) (recover_is o x)
      ∙ run_then (redo_io o (scan o) (scan (other o))) (λ _. answer (Ok (ready size o (scan o) (scan (other o))))) d
      ∙ ap (λ (r : Ran (Unit {0})). record { value = Ok (ready size o (scan o) (scan (other o))); device = r.device }) (redo_run size n d off.ours o)

  -- where it may be cut: nothing is written, or some of what is done again, or all of it and synced
  pub open_upto : (o : Slot) → Older o → (e : Device) → Upto (slots_io size) d e → Upto (write_all_io (redone size n d off.ours o)) d e ⊎ (e ≡ synced (all_done size n d off.ours o))
  unfolding run
  open_upto o x e u =
      elim (upto_then (scan_io size First) (λ a. then' (scan_io size Second) (λ b. recover_io size a b)) d e u) [
        | inl v ↦ still (scan_upto size (base First) 0 slot_sectors (Ok scan_start) d e v)
        | inr v ↦ second-scan (subst (λ (r : Ran Scanned). Upto (then' (scan_io size Second) (λ b. recover_io size r.value b)) r.device e) (scan_is First) v)
      ]
    where
      still : e ≡ d → Upto (write_all_io (redone size n d off.ours o)) d e ⊎ (e ≡ synced (all_done size n d off.ours o))
      still q = inl (subst (λ (y : Device). Upto (write_all_io (redone size n d off.ours o)) d y) (sym q) here)

      then_rest : Upto (rest o) d e → Upto (write_all_io (redone size n d off.ours o)) d e ⊎ (e ≡ synced (all_done size n d off.ours o))
      then_rest v = redo_upto size n d off.ours o e (upto_map (redo_io o (scan o) (scan (other o))) (λ _. Ok (ready size o (scan o) (scan (other o)))) d e v)

      second-scan : Upto (then' (scan_io size Second) (λ b. recover_io size (Ok (scan First)) b)) d e → Upto (write_all_io (redone size n d off.ours o)) d e ⊎ (e ≡ synced (all_done size n d off.ours o))
      second-scan v =
          elim (upto_then (scan_io size Second) (λ b. recover_io size (Ok (scan First)) b) d e v) [
            | inl w ↦ still (scan_upto size (base Second) 0 slot_sectors (Ok scan_start) d e w)
            | inr w ↦ then_rest (subst (λ (p : Io Opened). Upto p d e) (recover_is o x) (subst (λ (r : Ran Scanned). Upto (recover_io size (Ok (scan First)) r.value) r.device e) (scan_is Second) w))
          ]

  pub which : (o : Slot) × Older o
  which = go (ltb (number_in size (slot_of d Second)) (number_in size (slot_of d First))) refl
    where
      go : (x : Bool) → ltb (number_in size (slot_of d Second)) (number_in size (slot_of d First)) ≡ x → (o : Slot) × Older o
      go true e = (Second, second e)
      go false e = (First, first e)

  -- OPENED, and cut
  -- on a device with room for the journal, that is all of opening
  pub opens : (j : Journal) × ((run (slots_io size) d).value ≡ Ok j) × On size n array j (run (slots_io size) d).device
  opens =
      let (o, x) = which in
      let y = in_order o x in
      let r = open_run o x in
      (ready size o (scan o) (scan (other o)), ap (λ (q : Ran Opened). q.value) r, subst (λ (q : Ran Opened). On size n array (ready size o (scan o) (scan (other o))) q.device) (sym r) (open_on o y.0 y.1))

  pub opens-cut : (m : ℕ) (e f : Device) → n ≤ m → Upto (slots_io size) d e → AfterCut e f → Off size m array f
  opens-cut m e f more u c =
      let (o, x) = which in
      let y = in_order o x in
      elim (open_upto o x e u) [
        | inl v ↦ redo_cut o y.0 y.1 m e f more v c
        | inr q ↦ rest-cut size n m array (ready size o (scan o) (scan (other o))) (synced (all_done size n d off.ours o)) f more (open_on o y.0 y.1).safe (subst (λ (z : Device). AfterCut z f) q c)
      ]
