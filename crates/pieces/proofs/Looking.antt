-- Which entry a block has, where one entry of the list changes.
use Rattle.std.proofs.Common.{◌≡◌, ℕ, zero, suc, ◌/◌, ◌%◌, ◌<◌, ◌≤◌, true, false, ◌==◌, List, [], ◌∷◌, length, get_or, set, Some, None, Option, refl, sym, ap, ◌∙◌, subst, arith}
use Rattle.std.specs.List.{position, count_by, list_all}
use Rattle.std.proofs.lemmas.List.{get_or-set_same, get_or-set_other}
use Rattle.std.proofs.lemmas.List.Quantifiers.{position-Some}
use Rattle.std.proofs.lemmas.Bool.{eqb-true, eq-eqb, ne_eqb, and_left}
use Rattle.pieces.specs.declared.entry.Entry.{Entry}
use Rattle.pieces.specs.Entries.{is_block, is_free, is_empty, free_entry, marker}
use Rattle.pieces.specs.Kept.{Kept, index_of, place_in, place_of, stamp_in, stamp_of, or_else, vacant}
use Rattle.pieces.specs.Meaning.{look_in, look}
use Rattle.pieces.proofs.Bytes.{both_true}
use Rattle.pieces.proofs.Counting.{only_first, position-set_same, position-set_new, position-set_gone}

clash : false ≡ true → ⊥
clash e = let z : ◌≡◌ {A = ℕ} 0 1 = cc in absurd (omega arith)

-- zeros are zeros
pub zeros_at : (qs : List ℕ) (s : ℕ) → list_all (λ q. q == 0) qs ≡ true → get_or qs s 0 ≡ 0
zeros_at [] s h = refl
zeros_at (q ∷ qs) zero h = eqb-true q 0 (both_true (q == 0) (list_all (λ r. r == 0) qs) h).0
zeros_at (q ∷ qs) (suc s) h = zeros_at qs s (both_true (q == 0) (list_all (λ r. r == 0) qs) h).1

-- places and stamps are those of a block's entry
pub place_looked : (v n : ℕ) (k : Kept) → place_of v n k ≡ get_or (look v (n / 8) k.entries).places (n % 8) 0
place_looked v n k = go (index_of v (n / 8) k.entries)
  where
    go : (o : Option ℕ) → place_in o (n % 8) k ≡ get_or (look_in o k.entries).places (n % 8) 0
    go None = sym (zeros_at free_entry.places (n % 8) refl)
    go (Some i) = refl

pub stamp_looked : (v b : ℕ) (k : Kept) → stamp_of v b k ≡ (look v b k.entries).stamp.0
stamp_looked v b k = go (index_of v b k.entries)
  where
    go : (o : Option ℕ) → stamp_in o k ≡ (look_in o k.entries).stamp.0
    go None = refl
    go (Some i) = refl

module _ (v b : ℕ) (es : List Entry) (j : ℕ) (y : Entry) where
  -- neither what was there nor what is there now is this block's
  pub look_same : is_block v b (get_or es j free_entry) ≡ false → is_block v b y ≡ false → look v b (set es j y) ≡ look v b es
  look_same was now = ap (λ (o : Option ℕ). look_in o (set es j y)) (position-set_same (is_block v b) es j y free_entry (now ∙ sym was)) ∙ go (index_of v b es) refl
    where
      go : (o : Option ℕ) → index_of v b es ≡ o → look_in o (set es j y) ≡ look_in o es
      go None e = refl
      go (Some i) e =
          let passes : is_block v b (get_or es i free_entry) ≡ true = (position-Some (is_block v b) es i free_entry e).1 in
          get_or-set_other es j i y free_entry (λ (same : i ≡ j). clash (sym was ∙ subst (λ (n : ℕ). is_block v b (get_or es n free_entry) ≡ true) same passes))

  -- it was, and is
  pub look_here : j < length es → index_of v b es ≡ Some j → is_block v b y ≡ true → (look v b (set es j y) ≡ y) × (index_of v b (set es j y) ≡ Some j)
  look_here inside at now =
      let was : is_block v b (get_or es j free_entry) ≡ true = (position-Some (is_block v b) es j free_entry at).1 in
      let same : index_of v b (set es j y) ≡ Some j = position-set_same (is_block v b) es j y free_entry (now ∙ sym was) ∙ at in
      (ap (λ (o : Option ℕ). look_in o (set es j y)) same ∙ get_or-set_same es j y free_entry inside, same)

  -- it is, and none was
  pub look_new : j < length es → index_of v b es ≡ None → is_block v b y ≡ true → (look v b (set es j y) ≡ y) × (index_of v b (set es j y) ≡ Some j)
  look_new inside none now =
      let at : index_of v b (set es j y) ≡ Some j = position-set_new (is_block v b) es j y free_entry none inside now in
      (ap (λ (o : Option ℕ). look_in o (set es j y)) at ∙ get_or-set_same es j y free_entry inside, at)

  -- it was, and isn't any more
  pub look_gone : j < length es → count_by (is_block v b) es ≤ 1 → is_block v b (get_or es j free_entry) ≡ true → is_block v b y ≡ false → (look v b es ≡ get_or es j free_entry) × (look v b (set es j y) ≡ free_entry)
  look_gone inside single was now =
      (ap (λ (o : Option ℕ). look_in o es) (only_first (is_block v b) es j free_entry inside was single), ap (λ (o : Option ℕ). look_in o (set es j y)) (position-set_gone (is_block v b) es j y free_entry single inside was now))

-- what may be used is empty
pub vacant_empty : (es : List Entry) (i : ℕ) → vacant es ≡ Some i → is_empty (get_or es i free_entry) ≡ true
vacant_empty es i e = go (position is_free es) refl e
  where
    go : (o : Option ℕ) → position is_free es ≡ o → or_else o (position is_empty es) ≡ Some i → is_empty (get_or es i free_entry) ≡ true
    go None q r = (position-Some is_empty es i free_entry r).1
    go (Some j) q r = (both_true ((get_or es i free_entry).volume.0 == 0) (is_empty (get_or es i free_entry)) (position-Some is_free es i free_entry (q ∙ r)).1).1

pub block_of_marker : (v b w : ℕ) → is_block v b (marker v b w) ≡ true
block_of_marker v b w = rw (eq-eqb v v refl, eq-eqb b b refl) refl

pub same_block : (v b u c w : ℕ) → is_block v b (marker u c w) ≡ true → (u ≡ v) × (c ≡ b)
same_block v b u c w e = let f = both_true (u == v) (c == b) e in (eqb-true u v f.0, eqb-true c b f.1)

pub look_in_none : (v b : ℕ) (es : List Entry) → index_of v b es ≡ None → look v b es ≡ free_entry
look_in_none v b es e = ap (λ (o : Option ℕ). look_in o es) e

-- no volume has the number 0
pub no_volume : (u : ℕ) → (0 == suc u) ≡ false
no_volume u = ne_eqb 0 (suc u) (λ (z : ◌≡◌ {A = ℕ} 0 (suc u)). absurd (omega arith))

pub no_block : (u b : ℕ) → is_block (suc u) b free_entry ≡ false
no_block u b = and_left (0 == suc u) (0 == b) (no_volume u)
