-- A sector of a block that has an entry gets another place: what becomes of all places and stamps; and that no two sectors have one place.
use Rattle.std.proofs.Common.{◌≡◌, ◌⊎◌, inl, inr, ℕ, suc, ◌/◌, ◌%◌, ◌<◌, ◌≤◌, Bool, true, false, ◌==◌, List, length, get_or, set, Some, None, Option, refl, ap, ◌∙◌, subst, arith}
use Rattle.std.proofs.lemmas.List.{get_or_past}
use Rattle.std.proofs.lemmas.List.Quantifiers.{position-Some}
use Rattle.std.proofs.lemmas.List.Sums.{get_or-le-sum_by}
use Rattle.std.proofs.lemmas.Bool.{eqb-true, cases_order, cases_lt}
use Rattle.pieces.specs.declared.entry.Entry.{Entry}
use Rattle.pieces.specs.Entries.{is_block, free_entry}
use Rattle.pieces.specs.Kept.{Kept, index_of, place_in, place_of, entry_at, place_at, with_place}
use Rattle.pieces.specs.Meaning.{look, use_of, uses_in, uses, is_taken, Sound}
use Rattle.pieces.proofs.Bytes.{both_true}
use Rattle.pieces.proofs.Counting.{two_in, use_same, one-le}
use Rattle.pieces.proofs.Looking.{look_same, look_here}

-- the entry at the place that is found is the block's
pub its_own : (v b i : ℕ) (es : List Entry) → index_of v b es ≡ Some i → is_block v b (get_or es i free_entry) ≡ true
its_own v b i es e = (position-Some (is_block v b) es i free_entry e).1

pub one_block : (v b u a : ℕ) (e : Entry) → is_block v b e ≡ true → is_block u a e ≡ true → (u ≡ v) × (a ≡ b)
one_block v b u a e p q =
    let f = both_true (e.volume.0 == v) (e.block.0 == b) p in
    let g = both_true (e.volume.0 == u) (e.block.0 == a) q in
    (omega (arith, eqb-true e.volume.0 v f.0, eqb-true e.volume.0 u g.0), omega (arith, eqb-true e.block.0 b f.1, eqb-true e.block.0 a g.1))

module _ (v b i s p w : ℕ) (es : List Entry) (inside : i < length es) (at : index_of (suc v) b es ≡ Some i) where
  pub put_here : (look (suc v) b (set es i (with_place s p w (get_or es i free_entry))) ≡ with_place s p w (get_or es i free_entry)) × (index_of (suc v) b (set es i (with_place s p w (get_or es i free_entry))) ≡ Some i)
  put_here = look_here (suc v) b es i (with_place s p w (get_or es i free_entry)) inside at (its_own (suc v) b i es at)

  pub put_other : (u a : ℕ) → ((u ≡ v) × (a ≡ b) → ⊥) → look (suc u) a (set es i (with_place s p w (get_or es i free_entry))) ≡ look (suc u) a es
  put_other u a o = go (is_block (suc u) a (get_or es i free_entry)) refl
    where
      go : (t : Bool) → is_block (suc u) a (get_or es i free_entry) ≡ t → look (suc u) a (set es i (with_place s p w (get_or es i free_entry))) ≡ look (suc u) a es
      go true t = let f = one_block (suc v) b (suc u) a (get_or es i free_entry) (its_own (suc v) b i es at) t in absurd (o (omega (arith, f.0), f.1))
      go false t = look_same (suc u) a es i (with_place s p w (get_or es i free_entry)) t t

-- a slot that has a place is one of eight
slot_in : (qs : List ℕ) (s p : ℕ) → get_or qs s 0 ≡ suc p → s < length qs
slot_in qs s p e = go (cases_lt s (length qs))
  where
    go : (s < length qs) ⊎ (length qs ≤ s) → s < length qs
    go (inl l) = l
    go (inr g) = absurd (omega (arith, e, get_or_past qs s 0 g))

-- who has a place has an entry
has_entry : (v n p : ℕ) (k : Kept) → place_of v n k ≡ suc p → (i : ℕ) × (index_of v (n / 8) k.entries ≡ Some i) × (place_at i (n % 8) k ≡ suc p)
has_entry v n p k e = go (index_of v (n / 8) k.entries) refl e
  where
    go : (o : Option ℕ) → index_of v (n / 8) k.entries ≡ o → place_in o (n % 8) k ≡ suc p → (i : ℕ) × (index_of v (n / 8) k.entries ≡ Some i) × (place_at i (n % 8) k ≡ suc p)
    go None q r = absurd (omega (arith, r))
    go (Some i) q r = (i, q, r)

-- no two slots have one place
one_slot : (size : ℕ) (k : Kept) → Sound size k → (p i s j t : ℕ) → i < length k.entries → j < length k.entries → place_at i s k ≡ suc p → place_at j t k ≡ suc p → (i ≡ j) × (s ≡ t)
one_slot size k x p i s j t li lj e f = go (cases_order i j)
  where
    here : (a c : ℕ) → place_at a c k ≡ suc p → 1 ≤ uses_in (suc p) (entry_at a k)
    here a c h = omega (arith, get_or-le-sum_by (use_of (suc p)) (entry_at a k).places c 0 (slot_in (entry_at a k).places c p h), use_same (suc p) (place_at a c k) h)

    most : uses (suc p) k.entries ≤ 1
    most = omega (arith, x.apart p, one-le (is_taken (suc p) k.taken))

    slots : i ≡ j → (s ≡ t) ⊎ ((s < t) ⊎ (t < s)) → (i ≡ j) × (s ≡ t)
    slots q (inl o) = (q, o)
    slots q (inr (inl l)) =
        let g : place_at i t k ≡ suc p = ap (λ (n : ℕ). place_at n t k) q ∙ f in
        absurd (omega (arith, two_in (use_of (suc p)) (entry_at i k).places s t 0 l (slot_in (entry_at i k).places t p g), use_same (suc p) (place_at i s k) e, use_same (suc p) (place_at i t k) g, get_or-le-sum_by (uses_in (suc p)) k.entries i free_entry li, most))
    slots q (inr (inr l)) =
        let g : place_at i t k ≡ suc p = ap (λ (n : ℕ). place_at n t k) q ∙ f in
        absurd (omega (arith, two_in (use_of (suc p)) (entry_at i k).places t s 0 l (slot_in (entry_at i k).places s p e), use_same (suc p) (place_at i s k) e, use_same (suc p) (place_at i t k) g, get_or-le-sum_by (uses_in (suc p)) k.entries i free_entry li, most))

    go : (i ≡ j) ⊎ ((i < j) ⊎ (j < i)) → (i ≡ j) × (s ≡ t)
    go (inl q) = slots q (cases_order s t)
    go (inr (inl l)) = absurd (omega (arith, two_in (uses_in (suc p)) k.entries i j free_entry l lj, here i s e, here j t f, most))
    go (inr (inr l)) = absurd (omega (arith, two_in (uses_in (suc p)) k.entries j i free_entry l li, here i s e, here j t f, most))

-- no two sectors have one place
pub one_sector : (size : ℕ) (k : Kept) → Sound size k → (p u m v n : ℕ) → place_of (suc u) m k ≡ suc p → place_of (suc v) n k ≡ suc p → (u ≡ v) × (m ≡ n)
one_sector size k x p u m v n e f =
    let a = has_entry (suc u) m p k e in
    let b = has_entry (suc v) n p k f in
    let la : a.0 < length k.entries = (position-Some (is_block (suc u) (m / 8)) k.entries a.0 free_entry a.1).0 in
    let lb : b.0 < length k.entries = (position-Some (is_block (suc v) (n / 8)) k.entries b.0 free_entry b.1).0 in
    let s = one_slot size k x p a.0 (m % 8) b.0 (n % 8) la lb a.2 b.2 in
    let g : is_block (suc u) (m / 8) (get_or k.entries b.0 free_entry) ≡ true = subst (λ (i : ℕ). is_block (suc u) (m / 8) (get_or k.entries i free_entry) ≡ true) s.0 (its_own (suc u) (m / 8) a.0 k.entries a.1) in
    let o = one_block (suc v) (n / 8) (suc u) (m / 8) (get_or k.entries b.0 free_entry) (its_own (suc v) (n / 8) b.0 k.entries b.1) g in
    (omega (arith, o.0), omega (arith, o.1, s.1))
