-- The nearest entry of those that are wanted.
use Rattle.std.proofs.Common.{◌≡◌, ◌⊎◌, inl, inr, ℕ, zero, suc, ◌<◌, ◌≤◌, Bool, true, false, cond, ◌&&◌, ◌==◌, ltb, List, [], ◌∷◌, length, get_or, Some, None, Option, refl, sym, ap, ◌∙◌, subst, arith}
use Rattle.std.specs.List.{fold}
use Rattle.std.proofs.lemmas.Bool.{eqb-true, eqb-false, ltb-true, ltb-false, or_cases, or_parts, and_parts, and_cases, and_from, and_right, cases_order}
use Rattle.pieces.specs.declared.entry.Stamp.{Stamp}
use Rattle.pieces.specs.declared.entry.Entry.{Entry}
use Rattle.pieces.specs.declared.changed.Key.{Key}
use Rattle.pieces.specs.Entries.{free_entry}
use Rattle.pieces.specs.Changes.{entry_key, is_before, is_wanted, is_nearer, nearest_of, nearest}

clash : {A : Type 0} → false ≡ true → A
clash e = let z : ◌≡◌ {A = ℕ} 0 1 = cc in absurd (omega arith)

-- THE ORDER
abbrev pub Before : Key → Key → Type 0
Before a b = (a.volume.0 < b.volume.0) ⊎ ((a.volume.0 ≡ b.volume.0) × (a.block.0 < b.block.0))

abbrev pub NotBefore : Key → Key → Type 0
NotBefore a b = (b.volume.0 < a.volume.0) ⊎ ((a.volume.0 ≡ b.volume.0) × (b.block.0 ≤ a.block.0))

pub before : (a b : Key) → is_before a b ≡ true → Before a b
unfolding is_before
before a b e = go (or_cases (ltb a.volume.0 b.volume.0) (a.volume.0 == b.volume.0 && ltb a.block.0 b.block.0) e)
  where
    go : (ltb a.volume.0 b.volume.0 ≡ true) ⊎ ((a.volume.0 == b.volume.0 && ltb a.block.0 b.block.0) ≡ true) → Before a b
    go (inl t) = inl (ltb-true a.volume.0 b.volume.0 t)
    go (inr t) = let p = and_parts (a.volume.0 == b.volume.0) (ltb a.block.0 b.block.0) t in inr (eqb-true a.volume.0 b.volume.0 p.0, ltb-true a.block.0 b.block.0 p.1)

pub not_before : (a b : Key) → is_before a b ≡ false → NotBefore a b
unfolding is_before
not_before a b e =
    let p = or_parts (ltb a.volume.0 b.volume.0) (a.volume.0 == b.volume.0 && ltb a.block.0 b.block.0) e in
    go (ltb-false a.volume.0 b.volume.0 p.0) (and_cases (a.volume.0 == b.volume.0) (ltb a.block.0 b.block.0) p.1)
  where
    strict : b.volume.0 ≤ a.volume.0 → (a.volume.0 ≡ b.volume.0 → ⊥) → b.volume.0 < a.volume.0
    strict l o = omega arith

    by_order : b.volume.0 ≤ a.volume.0 → b.block.0 ≤ a.block.0 → (a.volume.0 ≡ b.volume.0) ⊎ ((a.volume.0 < b.volume.0) ⊎ (b.volume.0 < a.volume.0)) → NotBefore a b
    by_order l m (inl e) = inr (e, m)
    by_order l m (inr (inl k)) = absurd (omega arith)
    by_order l m (inr (inr k)) = inl k

    same : b.volume.0 ≤ a.volume.0 → b.block.0 ≤ a.block.0 → NotBefore a b
    same l m = by_order l m (cases_order a.volume.0 b.volume.0)

    go : b.volume.0 ≤ a.volume.0 → ((a.volume.0 == b.volume.0) ≡ false) ⊎ (ltb a.block.0 b.block.0 ≡ false) → NotBefore a b
    go l (inl t) = inl (strict l (eqb-false a.volume.0 b.volume.0 t))
    go l (inr t) = same l (ltb-false a.block.0 b.block.0 t)

pub is_before_from : (a b : Key) → Before a b → is_before a b ≡ true
is_before_from a b p = go (is_before a b) refl
  where
    go : (t : Bool) → is_before a b ≡ t → is_before a b ≡ true
    go true e = e
    go false e = absurd (omega (arith, not_before a b e, p))

pub not_before_from : (a b : Key) → NotBefore a b → is_before a b ≡ false
not_before_from a b p = go (is_before a b) refl
  where
    go : (t : Bool) → is_before a b ≡ t → is_before a b ≡ false
    go true e = absurd (omega (arith, before a b e, p))
    go false e = e

-- THE NEAREST, from one that was found before
module _ (since : Option Stamp) (from : Key) where
  W : Entry → Bool
  W e = is_wanted since from e

  abbrev from_best : Option Entry → List Entry → Option Entry
  from_best best es = fold (nearest_of since from) best es

  -- never farther than what was found before
  no_farther : (es : List Entry) (x : Entry) → (y : Entry) × (fold (nearest_of since from) (Some x) es ≡ Some y) × NotBefore (entry_key x) (entry_key y)
  no_farther [] x = (x, refl, inr (refl, omega arith))
  no_farther (z ∷ es) x = go (is_wanted since from z && is_before (entry_key z) (entry_key x)) refl (no_farther es z) (no_farther es x)
    where
      go : (t : Bool) → (is_wanted since from z && is_before (entry_key z) (entry_key x)) ≡ t → (y : Entry) × (fold (nearest_of since from) (Some z) es ≡ Some y) × NotBefore (entry_key z) (entry_key y) →
          (y : Entry) × (fold (nearest_of since from) (Some x) es ≡ Some y) × NotBefore (entry_key x) (entry_key y) → (y : Entry) × (fold (nearest_of since from) (Some x) (z ∷ es) ≡ Some y) × NotBefore (entry_key x) (entry_key y)
      go true e a b =
          let near = before (entry_key z) (entry_key x) (and_parts (is_wanted since from z) (is_before (entry_key z) (entry_key x)) e).1 in
          (a.0, ap (λ (t : Bool). fold (nearest_of since from) (cond t (Some z) (Some x)) es) e ∙ a.1, farther (entry_key x) (entry_key z) (entry_key a.0) near a.2)
        where
          farther : (p q r : Key) → Before q p → NotBefore q r → NotBefore p r
          farther p q r (inl l) (inl m) = inl (omega arith)
          farther p q r (inl l) (inr m) = inl (omega (arith, m.0))
          farther p q r (inr l) (inl m) = inl (omega (arith, l.0))
          farther p q r (inr l) (inr m) = inr (omega (arith, l.0, m.0), omega (arith, l.1, m.1))
      go false e a b = (b.0, ap (λ (t : Bool). fold (nearest_of since from) (cond t (Some z) (Some x)) es) e ∙ b.1, b.2)

  -- of what is wanted none is nearer
  none_nearer : (es : List Entry) (best : Option Entry) (i : ℕ) → i < length es → is_wanted since from (get_or es i free_entry) ≡ true → (y : Entry) × (fold (nearest_of since from) best es ≡ Some y) × NotBefore (entry_key (get_or es i free_entry)) (entry_key y)
  none_nearer [] best i l t = absurd (omega arith)
  none_nearer (x ∷ es) best (suc i) l t = none_nearer es (nearest_of since from best x) i (omega arith) t
  none_nearer (x ∷ es) None zero l t =
      let a = no_farther es x in
      (a.0, ap (λ (b : Bool). fold (nearest_of since from) (cond b (Some x) None) es) (and_from (is_wanted since from x) true t refl) ∙ a.1, a.2)
  none_nearer (x ∷ es) (Some z) zero l t = go (is_before (entry_key x) (entry_key z)) refl
    where
      beyond : (p q r : Key) → NotBefore p q → NotBefore q r → NotBefore p r
      beyond p q r (inl a) (inl b) = inl (omega arith)
      beyond p q r (inl a) (inr b) = inl (omega (arith, b.0))
      beyond p q r (inr a) (inl b) = inl (omega (arith, a.0))
      beyond p q r (inr a) (inr b) = inr (omega (arith, a.0, b.0), omega (arith, a.1, b.1))

      go : (b : Bool) → is_before (entry_key x) (entry_key z) ≡ b → (y : Entry) × (fold (nearest_of since from) (Some z) (x ∷ es) ≡ Some y) × NotBefore (entry_key x) (entry_key y)
      go true e =
          let a = no_farther es x in
          (a.0, ap (λ (b : Bool). fold (nearest_of since from) (cond b (Some x) (Some z)) es) (and_from (is_wanted since from x) (is_before (entry_key x) (entry_key z)) t e) ∙ a.1, a.2)
      go false e =
          let a = no_farther es z in
          (a.0, ap (λ (b : Bool). fold (nearest_of since from) (cond b (Some x) (Some z)) es) (and_right (is_wanted since from x) (is_before (entry_key x) (entry_key z)) e) ∙ a.1, beyond (entry_key x) (entry_key z) (entry_key a.0) (not_before (entry_key x) (entry_key z) e) a.2)

  -- what is found is one of them
  abbrev OneOf : List Entry → Entry → Type 0
  OneOf es y = (i : ℕ) × (i < length es) × (get_or es i free_entry ≡ y) × (is_wanted since from y ≡ true)

  one_of : (es : List Entry) (best : Option Entry) (y : Entry) → fold (nearest_of since from) best es ≡ Some y → (best ≡ Some y) ⊎ OneOf es y
  one_of [] best y e = inl e
  one_of (x ∷ es) best y e = go (one_of es (nearest_of since from best x) y e)
    where
      first : (t : Bool) → (is_wanted since from x && is_nearer x best) ≡ t → cond t (Some x) best ≡ Some y → (best ≡ Some y) ⊎ OneOf (x ∷ es) y
      first true q r =
          let same : x ≡ y = cc in
          inr (0, omega arith, same, ap (λ (z : Entry). is_wanted since from z) (sym same) ∙ (and_parts (is_wanted since from x) (is_nearer x best) q).0)
      first false q r = inl r

      go : (nearest_of since from best x ≡ Some y) ⊎ OneOf es y → (best ≡ Some y) ⊎ OneOf (x ∷ es) y
      go (inl r) = first (is_wanted since from x && is_nearer x best) refl r
      go (inr (i, l, q, t)) = inr (suc i, omega arith, q, t)

  pub found_nearest : (es : List Entry) (y : Entry) → nearest since from es ≡ Some y → (i : ℕ) × (i < length es) × (get_or es i free_entry ≡ y) × (is_wanted since from y ≡ true)
  unfolding nearest
  found_nearest es y e = go (one_of es None y e)
    where
      go : (None ≡ Some y) ⊎ OneOf es y → OneOf es y
      go (inl r) = let z : ◌≡◌ {A = ℕ} 0 1 = cc in absurd (omega arith)
      go (inr r) = r

  pub nearest_none : (es : List Entry) → nearest since from es ≡ None → (i : ℕ) → i < length es → is_wanted since from (get_or es i free_entry) ≡ false
  unfolding nearest
  nearest_none es e i l = go (is_wanted since from (get_or es i free_entry)) refl
    where
      go : (t : Bool) → is_wanted since from (get_or es i free_entry) ≡ t → is_wanted since from (get_or es i free_entry) ≡ false
      go true q =
          let a = none_nearer es None i l q in
          let r : None ≡ Some a.0 = sym e ∙ a.1 in
          let z : ◌≡◌ {A = ℕ} 0 1 = cc in absurd (omega arith)
      go false q = q

  pub nearest_some : (es : List Entry) (y : Entry) → nearest since from es ≡ Some y → (i : ℕ) → i < length es → is_wanted since from (get_or es i free_entry) ≡ true → NotBefore (entry_key (get_or es i free_entry)) (entry_key y)
  unfolding nearest
  nearest_some es y e i l t =
      let a = none_nearer es None i l t in
      let r : Some a.0 ≡ Some y = sym a.1 ∙ e in
      let same : a.0 ≡ y = cc in
      subst (λ (z : Entry). NotBefore (entry_key (get_or es i free_entry)) (entry_key z)) same a.2
