-- Power that fails: at rest, while a record is written, and while its sectors are written in place. What is left is the array before the
-- transaction or after it.
use Rattle.std.proofs.Common.{◌≡◌, ℕ, ◌+◌, ◌*◌, ◌<◌, ◌≤◌, Bool, true, false, ◌&&◌, T, ltb, leb, ◌⊎◌, List, [], ◌++◌, length, sym, refl, ap, ◌∙◌, subst, inl, inr, arith, ltb-false, ltb-true, leb-true}
use mathlib.Core.List.Memᴰ
use mathlib.Core.List.{Memᴰ}
use Rattle.disks.specs.Device.{Device, run, Upto, shown, latest, synced, AfterCut}
use Rattle.journal.specs.Format.{most_writes, slot_sectors, guarded}
use Rattle.journal.specs.Programs.{base, other, in_area, named, all_in_area, write_all_io, record_of, record_sector, after_put}
use Rattle.recovery.specs.Machines.{last, whole_sectors}
use Rattle.journal.specs.declared.state.Write.{Write}
use Rattle.journal.specs.declared.state.Slot.{Slot}
use Rattle.journal.specs.declared.state.Slot.TheVariants.{First, Second}
use Rattle.journal.specs.declared.state.Journal.{Journal}
use Rattle.recovery.proofs.Lasts.{last-append, last_other, last_same, below-area}
use Rattle.recovery.proofs.Writing.{Alike, alike_shown, Among, upto_other, upto_grown, all_upto, all_shown}
use Rattle.recovery.proofs.Records.{from_in, from_out, from_among, sector-bytes}
use Rattle.recovery.proofs.Scanning.{Ours}
use Rattle.recovery.proofs.Mixing.{number_in, writes_in, there, mixed-ours, outcome, Outcome, new, as_before, none}
use Rattle.recovery.proofs.Redoing.{slot_of, slot_low}
use Rattle.recovery.proofs.Inv.{Can, IsSector, redone_with, Off, Safe, On, other_other, ours_more, number_cong, writes_in_cong, number-low, no_writes, redone-by, redone_one, can-cut, can_shown, can-quiet}

-- the order of two slots
abbrev pub Order : ℕ → (Slot → ℕ → List ℕ) → Slot → Type 0
Order size g older = (number_in size (g older) < number_in size (g (other older))) ⊎ (number_in size (g older) ≡ 0)

-- a device with the power off, from what its slots hold
pub off_of : (size n : ℕ) (array : ℕ → List ℕ) (e : Device) (older : Slot) → ((s : ℕ) → e.since s ≡ []) → ((slot : Slot) (i : ℕ) → i < slot_sectors → Ours size n i (slot_of e slot i)) → ((slot : Slot) (i : ℕ) → i < slot_sectors → IsSector (slot_of e slot i)) →
    Order size (slot_of e) older → ((s : ℕ) → T (in_area size s) → last (writes_in size (slot_of e older) ++ writes_in size (slot_of e (other older))) (shown e s) s ≡ array s) → Off size n array e
off_of size n array e older clean ours bytes order holds = record { clean = clean; ours = ours; bytes = bytes; differ = differ older order; holds = λ s a. ap (λ (ws : List Write). last ws (shown e s) s) (redone order) ∙ holds s a }
  where
    differ : (slot : Slot) → Order size (slot_of e) slot → number_in size (slot_of e First) ≡ number_in size (slot_of e Second) → number_in size (slot_of e First) ≡ 0
    differ First (inl l) q = absurd (omega arith)
    differ First (inr z) q = z
    differ Second (inl l) q = absurd (omega arith)
    differ Second (inr z) q = q ∙ z

    redone : Order size (slot_of e) older → redone_with size (slot_of e) ≡ writes_in size (slot_of e older) ++ writes_in size (slot_of e (other older))
    redone (inl l) = redone-by size (slot_of e) older l
    redone (inr z) = let nil = no_writes size n (slot_of e older) (ours older) z in redone_one size (slot_of e) older nil ∙ ap (λ (ws : List Write). ws ++ writes_in size (slot_of e (other older))) (sym nil)

-- slots that hold the same
pub order_cong : (size : ℕ) (g h : Slot → ℕ → List ℕ) → ((slot : Slot) (i : ℕ) → i < slot_sectors → h slot i ≡ g slot i) → (older : Slot) → Order size g older → Order size h older
order_cong size g h e older (inl l) = inl (let a = number_cong size (h older) (g older) (e older) in let b = number_cong size (h (other older)) (g (other older)) (e (other older)) in omega arith)
order_cong size g h e older (inr z) = inr (number_cong size (h older) (g older) (e older) ∙ z)

pub both_cong : (size : ℕ) (g h : Slot → ℕ → List ℕ) → ((slot : Slot) (i : ℕ) → i < slot_sectors → h slot i ≡ g slot i) → (older : Slot) → writes_in size (h older) ++ writes_in size (h (other older)) ≡ writes_in size (g older) ++ writes_in size (g (other older))
both_cong size g h e older = ap (λ (ws : List Write). ws ++ writes_in size (h (other older))) (writes_in_cong size (h older) (g older) (e older)) ∙ ap (λ (ws : List Write). writes_in size (g older) ++ ws) (writes_in_cong size (h (other older)) (g (other older)) (e (other older)))

-- AT REST
pub rest-cut : (size n m : ℕ) (array : ℕ → List ℕ) (j : Journal) (d e : Device) → n ≤ m → Safe size n array j d → AfterCut d e → Off size m array e
rest-cut size n m array j d e more on c =
    off_of size m array e j.slot c.nothing (λ slot i l. subst (Ours size m i) (sym (same slot i l)) (ours_more size on.most m i (slot_of d slot i) (omega (arith, on.above, on.low)) (on.ours slot i l))) (λ slot i l. subst IsSector (sym (same slot i l)) (on.bytes slot i l))
    (order_cong size (slot_of d) (slot_of e) same j.slot on.order) (λ s a. ap (λ (ws : List Write). last ws (shown e s) s) (both_cong size (slot_of d) (slot_of e) same j.slot) ∙ on.by_both s (shown e s) a (can-cut d e s c))
  where
    same : (slot : Slot) (i : ℕ) → i < slot_sectors → slot_of e slot i ≡ slot_of d slot i
    same slot i l = can-quiet d (base slot + i) (shown e (base slot + i)) (on.quiet slot i l) (can-cut d e (base slot + i) c)

-- what holds of a slot and of the other holds of both
pub per_slot : (P : Slot → Type 0) (a : Slot) → P a → P (other a) → (b : Slot) → P b
per_slot P First x y First = x
per_slot P First x y Second = y
per_slot P Second x y First = y
per_slot P Second x y Second = x

-- A TRANSACTION
module _ (size n : ℕ) (array : ℕ → List ℕ) (j : Journal) (d : Device) (on : Safe size n array j d) (shows : (s : ℕ) → T (in_area size s) → shown d s ≡ array s) (ws : List Write) (one : 1 ≤ length ws) (few : length ws ≤ most_writes) (area : T (all_in_area size ws)) (sectors : T (whole_sectors ws)) (fits : size ≤ 1099511627776) (left : j.next < 4611686018427387904) where
  abbrev rec : List Write
  rec = record_of (base j.slot) j.next ws

  abbrev array' : ℕ → List ℕ
  array' s = last ws (array s) s

  some : 1 ≤ j.next
  some = omega (arith, on.above)

  in_area_lem : (s : ℕ) → T (in_area size s) → guarded ≤ s
  in_area_lem s t = go (leb guarded s) refl t
    where
      go : (x : Bool) → leb guarded s ≡ x → T (x && ltb s size) → guarded ≤ s
      go true e u = leb-true guarded s e
      go false e u = absurd u

  -- the record names no guarded sector, and none of the other slot
  not_area : (s : ℕ) → T (in_area size s) → named s rec ≡ false
  not_area s t = from_out (base j.slot) j.next ws 0 (2 * length ws) s (go j.slot (in_area_lem s t))
    where
      go : (slot : Slot) → guarded ≤ s → (s < base slot + 0) ⊎ (base slot + (0 + 2 * length ws) ≤ s)
      go First k = inr (omega arith)
      go Second k = inr (omega arith)

  not_other : (i : ℕ) → i < slot_sectors → named (base (other j.slot) + i) rec ≡ false
  not_other i l = from_out (base j.slot) j.next ws 0 (2 * length ws) (base (other j.slot) + i) (go j.slot)
    where
      go : (slot : Slot) → (base (other slot) + i < base slot + 0) ⊎ (base slot + (0 + 2 * length ws) ≤ base (other slot) + i)
      go First = inr (omega arith)
      go Second = inl (omega arith)

  -- while the record is written
  module _ (f e : Device) (up : Upto (write_all_io rec) d f) (c : AfterCut f e) where
    mixed : (i : ℕ) → i < slot_sectors → (slot_of e j.slot i ≡ slot_of d j.slot i) ⊎ ((i < 2 * length ws) × (slot_of e j.slot i ≡ record_sector j.next ws i))
    mixed i l = go (can-cut f e (base j.slot + i) c)
      where
        grown : (x : List ℕ) → Memᴰ x (f.since (base j.slot + i)) → Memᴰ x (d.since (base j.slot + i)) ⊎ Among (base j.slot + i) x rec
        grown = (upto_grown rec d f (base j.slot + i) up).since

        at : (x : List ℕ) → Memᴰ x (d.since (base j.slot + i)) ⊎ Among (base j.slot + i) x rec → (i < 2 * length ws) × (x ≡ record_sector j.next ws i)
        at x (inl m) = absurd (Memᴰ.not-nil (subst (Memᴰ x) (on.quiet j.slot i l) m))
        at x (inr a) = let (q, s, k, y) = from_among (base j.slot) j.next ws 0 (2 * length ws) (base j.slot + i) x a in let same : q ≡ i = omega arith in (omega arith, y ∙ ap (record_sector j.next ws) same)

        go : Can f (base j.slot + i) (slot_of e j.slot i) → (slot_of e j.slot i ≡ slot_of d j.slot i) ⊎ ((i < 2 * length ws) × (slot_of e j.slot i ≡ record_sector j.next ws i))
        go (inl k) = inl (can-quiet d (base j.slot + i) (slot_of e j.slot i) (on.quiet j.slot i l) (inl (k ∙ (upto_grown rec d f (base j.slot + i) up).kept)))
        go (inr m) = inr (at (slot_of e j.slot i) (grown (slot_of e j.slot i) m))

    others : (i : ℕ) → i < slot_sectors → slot_of e (other j.slot) i ≡ slot_of d (other j.slot) i
    others i l =
        let a = upto_other rec d f (base (other j.slot) + i) (not_other i l) up in
        can-quiet f (base (other j.slot) + i) (slot_of e (other j.slot) i) (a.since ∙ on.quiet (other j.slot) i l) (can-cut f e (base (other j.slot) + i) c) ∙ alike_shown a

    can : (s : ℕ) → T (in_area size s) → Can d s (shown e s)
    can s t = go (upto_other rec d f s (not_area s t) up) (can-cut f e s c)
      where
        go : Alike d f s → Can f s (shown e s) → Can d s (shown e s)
        go a (inl k) = inl (k ∙ a.kept)
        go a (inr m) = inr (subst (Memᴰ (shown e s)) a.since m)

    ours : (slot : Slot) (i : ℕ) → i < slot_sectors → Ours size (n + 1) i (slot_of e slot i)
    ours = per_slot (λ slot. (i : ℕ) → i < slot_sectors → Ours size (n + 1) i (slot_of e slot i)) j.slot (λ i l. ours_more size j.next (n + 1) i (slot_of e j.slot i) on.low (mixed-ours size j.next ws some left one few area sectors fits (slot_of d j.slot) (slot_of e j.slot) on.most on.above (on.ours j.slot) mixed i l))
        (λ i l. ours_more size on.most (n + 1) i (slot_of e (other j.slot) i) (omega (arith, on.above, on.low)) (subst (Ours size on.most i) (sym (others i l)) (on.ours (other j.slot) i l)))

    bytes : (slot : Slot) (i : ℕ) → i < slot_sectors → IsSector (slot_of e slot i)
    bytes = per_slot (λ slot. (i : ℕ) → i < slot_sectors → IsSector (slot_of e slot i)) j.slot (λ i l. go i l (mixed i l)) (λ i l. subst IsSector (sym (others i l)) (on.bytes (other j.slot) i l))
      where
        go : (i : ℕ) → i < slot_sectors → (slot_of e j.slot i ≡ slot_of d j.slot i) ⊎ ((i < 2 * length ws) × (slot_of e j.slot i ≡ record_sector j.next ws i)) → IsSector (slot_of e j.slot i)
        go i l (inl q) = subst IsSector (sym q) (on.bytes j.slot i l)
        go i l (inr q) = subst IsSector (sym q.1) (sector-bytes size j.next ws some left few area sectors fits i q.0)

    pub record_cut : Off size (n + 1) array e ⊎ Off size (n + 1) array' e
    record_cut = go (outcome size j.next ws some left one few area sectors fits (slot_of d j.slot) (slot_of e j.slot) on.most on.above (on.ours j.slot) mixed)
      where
        g : Slot
        g = j.slot

        newer : writes_in size (slot_of e (other j.slot)) ≡ writes_in size (slot_of d (other j.slot))
        newer = writes_in_cong size (slot_of e (other j.slot)) (slot_of d (other j.slot)) others

        number : number_in size (slot_of e (other j.slot)) ≡ number_in size (slot_of d (other j.slot))
        number = number_cong size (slot_of e (other j.slot)) (slot_of d (other j.slot)) others

        go : Outcome size j.next ws some left one few area sectors fits (slot_of d j.slot) (slot_of e j.slot) on.most on.above (on.ours j.slot) mixed → Off size (n + 1) array e ⊎ Off size (n + 1) array' e
        go (new a b) = inr (off_of size (n + 1) array' e (other j.slot) c.nothing ours bytes (subst (λ (slot : Slot). (number_in size (slot_of e (other j.slot)) < number_in size (slot_of e slot)) ⊎ (number_in size (slot_of e (other j.slot)) ≡ 0)) (sym (other_other j.slot)) (inl (omega (arith, number, number-low size on.most (slot_of d (other j.slot)) (on.ours (other j.slot)), on.above))))
            (λ s t. subst (λ (slot : Slot). last (writes_in size (slot_of e (other j.slot)) ++ writes_in size (slot_of e slot)) (shown e s) s ≡ array' s) (sym (other_other j.slot))
            (ap (λ (xs : List Write). last (writes_in size (slot_of e (other j.slot)) ++ xs) (shown e s) s) b ∙ ap (λ (xs : List Write). last (xs ++ ws) (shown e s) s) newer ∙ last-append (writes_in size (slot_of d (other j.slot))) ws (shown e s) s ∙ ap (λ (x : List ℕ). last ws x s) (on.by-new s (shown e s) t (can s t)))))
        go (as_before a b) = inl (off_of size (n + 1) array e j.slot c.nothing ours bytes (order on.order) (λ s t. ap (λ (xs : List Write). last (xs ++ writes_in size (slot_of e (other j.slot))) (shown e s) s) b ∙ ap (λ (xs : List Write). last (writes_in size (slot_of d j.slot) ++ xs) (shown e s) s) newer ∙ on.by_both s (shown e s) t (can s t)))
          where
            order : Order size (slot_of d) j.slot → Order size (slot_of e) j.slot
            order (inl l) = inl (omega (arith, a, number))
            order (inr z) = inr (a ∙ z)
        go (none a b) = inl (off_of size (n + 1) array e j.slot c.nothing ours bytes (inr a) (λ s t. ap (λ (xs : List Write). last (xs ++ writes_in size (slot_of e (other j.slot))) (shown e s) s) b ∙ ap (λ (xs : List Write). last xs (shown e s) s) newer ∙ on.by-new s (shown e s) t (can s t)))

  -- while its sectors are written in place
  abbrev recorded : Device
  recorded = synced (run (write_all_io rec) d).device

  recorded_shown : (s : ℕ) → shown recorded s ≡ last rec (shown d s) s
  unfolding latest
  recorded_shown s = all_shown rec d s

  module _ (f : Device) (up : Upto (write_all_io ws) recorded f) where
    in_journal : (slot : Slot) (i : ℕ) → i < slot_sectors → Alike recorded f (base slot + i)
    in_journal slot i l = upto_other ws recorded f (base slot + i) (below-area size ws (base slot + i) area (slot_low slot i l)) up

    slot_shown : (slot : Slot) (i : ℕ) → i < slot_sectors → slot_of f slot i ≡ last rec (shown d (base slot + i)) (base slot + i)
    slot_shown slot i l = alike_shown (in_journal slot i l) ∙ recorded_shown (base slot + i)

    placed-here : (i : ℕ) → i < 2 * length ws → slot_of f j.slot i ≡ record_sector j.next ws i
    placed-here i l = slot_shown j.slot i (omega arith) ∙ from_in (base j.slot) j.next ws 0 (2 * length ws) i (shown d (base j.slot + i)) (omega arith) (omega arith)

    placed-mixed : (i : ℕ) → i < slot_sectors → (slot_of f j.slot i ≡ slot_of d j.slot i) ⊎ ((i < 2 * length ws) × (slot_of f j.slot i ≡ record_sector j.next ws i))
    placed-mixed i l = go (ltb i (2 * length ws)) refl
      where
        go : (x : Bool) → ltb i (2 * length ws) ≡ x → (slot_of f j.slot i ≡ slot_of d j.slot i) ⊎ ((i < 2 * length ws) × (slot_of f j.slot i ≡ record_sector j.next ws i))
        go true e = let k = ltb-true i (2 * length ws) e in inr (k, placed-here i k)
        go false e = let k = ltb-false i (2 * length ws) e in inl (slot_shown j.slot i l ∙ last_other rec (shown d (base j.slot + i)) (base j.slot + i) (from_out (base j.slot) j.next ws 0 (2 * length ws) (base j.slot + i) (inr (omega arith))))

    placed-others : (i : ℕ) → i < slot_sectors → slot_of f (other j.slot) i ≡ slot_of d (other j.slot) i
    placed-others i l = slot_shown (other j.slot) i l ∙ last_other rec (shown d (base (other j.slot) + i)) (base (other j.slot) + i) (not_other i l)

    -- a guarded sector that isn't written yet, or isn't to be
    stands : (s : ℕ) (x : List ℕ) → T (in_area size s) → Can f s x → named s ws ≡ false → x ≡ array s
    unfolding latest
    stands s x t can un =
        let a = upto_other ws recorded f s un up in
        can-quiet f s x a.since can ∙ alike_shown a ∙ recorded_shown s ∙ last_other rec (shown d s) s (not_area s t) ∙ shows s t

    by_record : (s : ℕ) (x : List ℕ) → T (in_area size s) → Can f s x → last ws x s ≡ array' s
    by_record s x t can = last_same ws x (array s) s (stands s x t can)

    by_two : (s : ℕ) (x : List ℕ) → T (in_area size s) → Can f s x → last (writes_in size (slot_of d (other j.slot)) ++ ws) x s ≡ array' s
    by_two s x t can =
        last-append (writes_in size (slot_of d (other j.slot))) ws x s
        ∙ last_same ws (last (writes_in size (slot_of d (other j.slot))) x s) (array s) s (λ un. ap (λ (y : List ℕ). last (writes_in size (slot_of d (other j.slot))) y s) (stands s x t can un ∙ sym (shows s t)) ∙ on.by-new s (shown d s) t (can_shown d s))

    placed-there : (number_in size (slot_of f j.slot) ≡ j.next) × (writes_in size (slot_of f j.slot) ≡ ws)
    placed-there = there size j.next ws some left one few area sectors fits (slot_of f j.slot) placed-here

    older : writes_in size (slot_of f (other j.slot)) ≡ writes_in size (slot_of d (other j.slot))
    older = writes_in_cong size (slot_of f (other j.slot)) (slot_of d (other j.slot)) placed-others

    pub placed : Safe size (n + 1) array' (after_put j) f
    unfolding latest
    placed =
        record {
          size_is = on.size_is;
          most = j.next;
          above = omega arith;
          low = omega (arith, on.low);
          quiet = λ slot i l. (in_journal slot i l).since;
          ours = per_slot (λ slot. (i : ℕ) → i < slot_sectors → Ours size j.next i (slot_of f slot i)) j.slot (mixed-ours size j.next ws some left one few area sectors fits (slot_of d j.slot) (slot_of f j.slot) on.most on.above (on.ours j.slot) placed-mixed)
              (λ i l. ours_more size on.most j.next i (slot_of f (other j.slot) i) (omega (arith, on.above)) (subst (Ours size on.most i) (sym (placed-others i l)) (on.ours (other j.slot) i l)));
          bytes = per_slot (λ slot. (i : ℕ) → i < slot_sectors → IsSector (slot_of f slot i)) j.slot (λ i l. sector i l (placed-mixed i l)) (λ i l. subst IsSector (sym (placed-others i l)) (on.bytes (other j.slot) i l));
          by-new = λ s x t can. subst (λ (slot : Slot). last (writes_in size (slot_of f slot)) x s ≡ array' s) (sym (other_other j.slot)) (ap (λ (xs : List Write). last xs x s) placed-there.1 ∙ by_record s x t can);
          by_both = λ s x t can. subst (λ (slot : Slot). last (writes_in size (slot_of f (other j.slot)) ++ writes_in size (slot_of f slot)) x s ≡ array' s) (sym (other_other j.slot)) (ap (λ (xs : List Write). last (writes_in size (slot_of f (other j.slot)) ++ xs) x s) placed-there.1 ∙ ap (λ (xs : List Write). last (xs ++ ws) x s) older ∙ by_two s x t can);
          order = subst (λ (slot : Slot). (number_in size (slot_of f (other j.slot)) < number_in size (slot_of f slot)) ⊎ (number_in size (slot_of f (other j.slot)) ≡ 0)) (sym (other_other j.slot))
              (inl (omega (arith, placed-there.0, number_cong size (slot_of f (other j.slot)) (slot_of d (other j.slot)) placed-others, number-low size on.most (slot_of d (other j.slot)) (on.ours (other j.slot)), on.above)));
        }
      where
        sector : (i : ℕ) → i < slot_sectors → (slot_of f j.slot i ≡ slot_of d j.slot i) ⊎ ((i < 2 * length ws) × (slot_of f j.slot i ≡ record_sector j.next ws i)) → IsSector (slot_of f j.slot i)
        sector i l (inl q) = subst IsSector (sym q) (on.bytes j.slot i l)
        sector i l (inr q) = subst IsSector (sym q.1) (sector-bytes size j.next ws some left few area sectors fits i q.0)

  -- all is done
  pub put_on : On size (n + 1) array' (after_put j) (run (write_all_io ws) recorded).device
  put_on =
      record {
        safe = placed (run (write_all_io ws) recorded).device (all_upto ws recorded);
        shows = λ s t. all_shown ws recorded s ∙ ap (λ (x : List ℕ). last ws x s) (recorded_shown s ∙ last_other rec (shown d s) s (not_area s t) ∙ shows s t);
      }
