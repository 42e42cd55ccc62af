-- Each change keeps a directory sound. Counts are compared before and after: an entry that changes takes its uses out and puts others in.
use Rattle.std.proofs.Common.{◌≡◌, ◌≢◌, ◌⊎◌, inl, inr, ℕ, zero, suc, ◌+◌, ◌<◌, ◌≤◌, Bool, true, false, cond, List, length, get_or, set, refl, sym, ap, ◌∙◌, subst, arith, length-set}
use Rattle.std.specs.List.{sum_by, count_by}
use Rattle.std.proofs.lemmas.List.{get_or-set_same, get_or-set_other, get_or_past}
use Rattle.std.proofs.lemmas.List.Sums.{sum_by-set, get_or-le-sum_by}
use Rattle.std.proofs.lemmas.Bool.{cases_eq, cases_lt, eq-eqb, ne_eqb}
use Rattle.pieces.specs.declared.entry.Entry.{Entry}
use Rattle.pieces.specs.Entries.{is_block, is_empty, free_entry}
use Rattle.pieces.specs.Kept.{Kept, entry_at, place_at, with_place, freed, puts_place, frees_place}
use Rattle.pieces.specs.Meaning.{use_of, uses_in, uses, full, held_in, held, one, is_taken, Sound}
use Rattle.pieces.proofs.Counting.{use_same, use_other, full_none, full_some, one-le, one_true, get_or-set_default, no_use, no_held}

-- an entry's place changes
module _ (k : Kept) (i s p v : ℕ) (inside : i < length k.entries) (eight : length (entry_at i k).places ≡ 8) (few : s < 8) where
  q : ℕ
  q = place_at i s k

  after : List Entry
  after = set k.entries i (with_place s p v (entry_at i k))

  pub uses_changed : (r : ℕ) → uses r (set k.entries i (with_place s p v (entry_at i k))) + use_of r (place_at i s k) ≡ uses r k.entries + use_of r p
  uses_changed r =
      omega (arith, sum_by-set (uses_in r) k.entries i (with_place s p v (entry_at i k)) free_entry inside, sum_by-set (use_of r) (entry_at i k).places s p 0 (omega arith))

  pub held_changed : held (set k.entries i (with_place s p v (entry_at i k))) + full (place_at i s k) ≡ held k.entries + full p
  held_changed = omega (arith, sum_by-set held_in k.entries i (with_place s p v (entry_at i k)) free_entry inside, sum_by-set full (entry_at i k).places s p 0 (omega arith))

  pub used_here : 1 ≤ uses (place_at i s k) k.entries
  used_here =
      omega (arith, get_or-le-sum_by (uses_in (place_at i s k)) k.entries i free_entry inside, get_or-le-sum_by (use_of (place_at i s k)) (entry_at i k).places s 0 (omega arith), use_same (place_at i s k) (place_at i s k) refl)

  pub eight_changed : ((j : ℕ) → length (entry_at j k).places ≡ 8) → (j : ℕ) → length (get_or (set k.entries i (with_place s p v (entry_at i k))) j free_entry).places ≡ 8
  eight_changed h j = go (cases_eq j i)
    where
      go : (j ≡ i) ⊎ (j ≡ i → ⊥) → length (get_or (set k.entries i (with_place s p v (entry_at i k))) j free_entry).places ≡ 8
      go (inl e) =
          subst (λ (n : ℕ). length (get_or (set k.entries i (with_place s p v (entry_at i k))) n free_entry).places ≡ 8) (sym e)
          (ap (λ (z : Entry). length z.places) (get_or-set_same k.entries i (with_place s p v (entry_at i k)) free_entry inside) ∙ length-set (entry_at i k).places s p ∙ eight)
      go (inr o) = ap (λ (z : Entry). length z.places) (get_or-set_other k.entries i j (with_place s p v (entry_at i k)) free_entry o) ∙ h j

  pub single_changed : (w b : ℕ) → count_by (is_block w b) (set k.entries i (with_place s p v (entry_at i k))) ≡ count_by (is_block w b) k.entries
  single_changed w b = omega (arith, sum_by-set (λ (z : Entry). cond (is_block w b z) 1 0) k.entries i (with_place s p v (entry_at i k)) free_entry inside)

-- a place that is taken is one of them
pub taken_in : (p : ℕ) (ts : List Bool) → is_taken p ts ≡ true → p < length ts
taken_in p ts t = go (cases_lt p (length ts))
  where
    go : (p < length ts) ⊎ (length ts ≤ p) → p < length ts
    go (inl l) = l
    go (inr g) = let y : false ≡ true = sym (get_or_past ts p false g) ∙ t in let z : ◌≡◌ {A = ℕ} 0 1 = cc in absurd (omega arith)

-- a place that is used is taken
pub used_taken : (size : ℕ) (k : Kept) → Sound size k → (p : ℕ) → p ≢ 0 → 1 ≤ uses p k.entries → is_taken p k.taken ≡ true
used_taken size k x zero e u = absurd (e refl)
used_taken size k x (suc p) e u = one_true (is_taken (suc p) k.taken) (omega (arith, x.apart p))

pub freed_none : (q : ℕ) (ts : List Bool) → q ≡ 0 → freed q ts ≡ ts
freed_none q ts e = ap (λ (b : Bool). cond b ts (set ts q false)) (eq-eqb q 0 e)

pub freed_some : (q : ℕ) (ts : List Bool) → q ≢ 0 → freed q ts ≡ set ts q false
freed_some q ts e = ap (λ (b : Bool). cond b ts (set ts q false)) (ne_eqb q 0 e)

pub sound-frees : (size i s v : ℕ) (k : Kept) → Sound size k → i < length k.entries → s < 8 → Sound size (frees_place i s v k)
unfolding frees_place
sound-frees size i s v k x inside few = go (cases_eq (place_at i s k) 0)
  where
    q : ℕ
    q = place_at i s k

    es : List Entry
    es = set k.entries i (with_place s 0 v (entry_at i k))

    -- nothing was there
    none_there : q ≡ 0 → Sound size (record { entries = es; taken = k.taken; floor = k.floor })
    none_there e = record {
      entries = length-set k.entries i _ ∙ x.entries;
      taken = x.taken;
      none = x.none;
      eight = eight_changed k i s 0 v inside (x.eight i) few x.eight;
      apart = λ p. omega (arith, uses_changed k i s 0 v inside (x.eight i) few (suc p), use_other (suc p) 0 (omega arith), use_other (suc p) q (omega arith), x.apart p);
      total = omega (arith, held_changed k i s 0 v inside (x.eight i) few, full_none q e, full_none 0 refl, x.total);
      single = λ w b. omega (arith, single_changed k i s 0 v inside (x.eight i) few (suc w) b, x.single w b);
    }

    -- a place was used there, which is free now
    one_there : q ≢ 0 → Sound size (record { entries = es; taken = set k.taken q false; floor = k.floor })
    one_there e =
        let was : is_taken q k.taken ≡ true = used_taken size k x q e (used_here k i s 0 v inside (x.eight i) few) in
        let within : q < length k.taken = taken_in q k.taken was in
        record {
          entries = length-set k.entries i _ ∙ x.entries;
          taken = length-set k.taken q false ∙ x.taken;
          none = get_or-set_other k.taken q 0 false false (λ z. e (sym z)) ∙ x.none;
          eight = eight_changed k i s 0 v inside (x.eight i) few x.eight;
          apart = λ p. at_place p (cases_eq (suc p) q);
          total = omega (arith, held_changed k i s 0 v inside (x.eight i) few, full_some q e, full_none 0 refl, x.total, sum_by-set one k.taken q false false within, ap one was);
          single = λ w b. omega (arith, single_changed k i s 0 v inside (x.eight i) few (suc w) b, x.single w b);
        }
      where
        at_place : (p : ℕ) → (suc p ≡ q) ⊎ (suc p ≡ q → ⊥) → uses (suc p) es ≡ one (is_taken (suc p) (set k.taken q false))
        at_place p (inl o) =
            let now : one (is_taken (suc p) (set k.taken q false)) ≡ 0 = ap one (ap (λ (n : ℕ). is_taken n (set k.taken q false)) o ∙ get_or-set_default k.taken q false) in
            omega (arith, uses_changed k i s 0 v inside (x.eight i) few (suc p), use_other (suc p) 0 (omega arith), use_same (suc p) q (sym o), x.apart p, one-le (is_taken (suc p) k.taken), now)
        at_place p (inr o) =
            let now : one (is_taken (suc p) (set k.taken q false)) ≡ one (is_taken (suc p) k.taken) = ap one (get_or-set_other k.taken q (suc p) false false o) in
            omega (arith, uses_changed k i s 0 v inside (x.eight i) few (suc p), use_other (suc p) 0 (omega arith), use_other (suc p) q (λ z. o (sym z)), x.apart p, now)

    go : (q ≡ 0) ⊎ (q ≡ 0 → ⊥) → Sound size (record { entries = es; taken = freed q k.taken; floor = k.floor })
    go (inl e) = subst (λ (ts : List Bool). Sound size (record { entries = es; taken = ts; floor = k.floor })) (sym (freed_none q k.taken e)) (none_there e)
    go (inr e) = subst (λ (ts : List Bool). Sound size (record { entries = es; taken = ts; floor = k.floor })) (sym (freed_some q k.taken e)) (one_there e)

-- a place may be put where it was already, or, if it is free, where none was
unfoldable pub MayPut : (index slot place : ℕ) → Kept → Type 0
MayPut i s p k = ((place_at i s k ≡ 0) × (is_taken p k.taken ≡ false)) ⊎ (place_at i s k ≡ p)

pub sound-puts : (size i s p v : ℕ) (k : Kept) → Sound size k → i < length k.entries → s < 8 → suc p < length k.taken → MayPut i s (suc p) k → Sound size (puts_place i s (suc p) v k)
unfolding puts_place MayPut
sound-puts size i s p v k x inside few within may =
    record {
      entries = length-set k.entries i _ ∙ x.entries;
      taken = length-set k.taken (suc p) true ∙ x.taken;
      none = get_or-set_other k.taken (suc p) 0 true false (λ z. absurd (omega arith)) ∙ x.none;
      eight = eight_changed k i s (suc p) v inside (x.eight i) few x.eight;
      apart = λ r. at_place r (cases_eq (suc r) (suc p)) may;
      total = in_all may;
      single = λ w b. omega (arith, single_changed k i s (suc p) v inside (x.eight i) few (suc w) b, x.single w b);
    }
  where
    q : ℕ
    q = place_at i s k

    es : List Entry
    es = set k.entries i (with_place s (suc p) v (entry_at i k))

    -- where it was already
    was_taken : q ≡ suc p → is_taken (suc p) k.taken ≡ true
    was_taken e = used_taken size k x (suc p) (λ z. absurd (omega arith)) (subst (λ (n : ℕ). 1 ≤ uses n k.entries) e (used_here k i s (suc p) v inside (x.eight i) few))

    in_all : ((q ≡ 0) × (is_taken (suc p) k.taken ≡ false)) ⊎ (q ≡ suc p) → sum_by one (set k.taken (suc p) true) ≡ suc (held es)
    in_all (inl m) = omega (arith, held_changed k i s (suc p) v inside (x.eight i) few, full_none q m.0, full_some (suc p) (λ z. absurd (omega arith)), x.total, sum_by-set one k.taken (suc p) true false within, ap one m.1)
    in_all (inr e) =
        omega (arith, held_changed k i s (suc p) v inside (x.eight i) few, full_some q (λ z. absurd (omega arith)), full_some (suc p) (λ z. absurd (omega arith)), x.total, sum_by-set one k.taken (suc p) true false within, ap one (was_taken e))

    at_place : (r : ℕ) → (suc r ≡ suc p) ⊎ (suc r ≡ suc p → ⊥) → ((q ≡ 0) × (is_taken (suc p) k.taken ≡ false)) ⊎ (q ≡ suc p) → uses (suc r) es ≡ one (is_taken (suc r) (set k.taken (suc p) true))
    at_place r (inl o) (inl m) =
        let now : one (is_taken (suc r) (set k.taken (suc p) true)) ≡ 1 = ap one (ap (λ (n : ℕ). is_taken n (set k.taken (suc p) true)) o ∙ get_or-set_same k.taken (suc p) true false within) in
        let then' : one (is_taken (suc r) k.taken) ≡ 0 = ap one (ap (λ (n : ℕ). is_taken n k.taken) o ∙ m.1) in
        omega (arith, uses_changed k i s (suc p) v inside (x.eight i) few (suc r), use_other (suc r) q (omega arith), use_same (suc r) (suc p) (sym o), x.apart r, now, then')
    at_place r (inl o) (inr e) =
        let now : one (is_taken (suc r) (set k.taken (suc p) true)) ≡ 1 = ap one (ap (λ (n : ℕ). is_taken n (set k.taken (suc p) true)) o ∙ get_or-set_same k.taken (suc p) true false within) in
        let then' : one (is_taken (suc r) k.taken) ≡ 1 = ap one (ap (λ (n : ℕ). is_taken n k.taken) o ∙ was_taken e) in
        omega (arith, uses_changed k i s (suc p) v inside (x.eight i) few (suc r), use_same (suc r) q (omega arith), use_same (suc r) (suc p) (sym o), x.apart r, now, then')
    at_place r (inr o) m =
        let now : one (is_taken (suc r) (set k.taken (suc p) true)) ≡ one (is_taken (suc r) k.taken) = ap one (get_or-set_other k.taken (suc p) (suc r) true false o) in
        let other : q ≢ suc r = not_here m in
        omega (arith, uses_changed k i s (suc p) v inside (x.eight i) few (suc r), use_other (suc r) q other, use_other (suc r) (suc p) (λ z. o (sym z)), x.apart r, now)
      where
        not_here : ((q ≡ 0) × (is_taken (suc p) k.taken ≡ false)) ⊎ (q ≡ suc p) → q ≢ suc r
        not_here (inl n) z = absurd (omega (arith, n.0))
        not_here (inr e) z = o (omega arith)

-- an empty entry is replaced by an empty one
pub sound-replaced : (size i f : ℕ) (y : Entry) (k : Kept) → Sound size k → i < length k.entries → is_empty (entry_at i k) ≡ true → is_empty y ≡ true → length y.places ≡ 8 → ((v b : ℕ) → count_by (is_block (suc v) b) (set k.entries i y) ≤ 1) → Sound size (record { entries = set k.entries i y; taken = k.taken; floor = f })
sound-replaced size i f y k x inside was now eight single = record {
  entries = length-set k.entries i y ∙ x.entries;
  taken = x.taken;
  none = x.none;
  eight = λ j. go j (cases_eq j i);
  apart = λ p. omega (arith, sum_by-set (uses_in (suc p)) k.entries i y free_entry inside, no_use p (entry_at i k).places was, no_use p y.places now, x.apart p);
  total = omega (arith, sum_by-set held_in k.entries i y free_entry inside, no_held (entry_at i k).places was, no_held y.places now, x.total);
  single = single;
}
  where
    go : (j : ℕ) → (j ≡ i) ⊎ (j ≡ i → ⊥) → length (get_or (set k.entries i y) j free_entry).places ≡ 8
    go j (inl e) = subst (λ (n : ℕ). length (get_or (set k.entries i y) n free_entry).places ≡ 8) (sym e) (ap (λ (z : Entry). length z.places) (get_or-set_same k.entries i y free_entry inside) ∙ eight)
    go j (inr o) = ap (λ (z : Entry). length z.places) (get_or-set_other k.entries i j y free_entry o) ∙ x.eight j
