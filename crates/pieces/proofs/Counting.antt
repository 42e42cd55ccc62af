-- Counts and first places, in lists of which one element changes.
use Rattle.std.proofs.Common.{◌≡◌, ◌≢◌, ℕ, zero, suc, ◌+◌, ◌<◌, ◌≤◌, Bool, true, false, cond, ◌==◌, ltb, List, [], ◌∷◌, length, get_or, set, Some, None, refl, ap, ◌∙◌, arith, length-set}
use Rattle.std.specs.List.{position, position_or_len, sum_by, count_by, list_all}
use Rattle.std.proofs.lemmas.List.{get_or-set_same, get_or-set_other}
use Rattle.std.proofs.lemmas.List.Sums.{sum_by-cons, sum_by-set, get_or-le-sum_by, position_or_len_is, fails_before_first, passes_at_first}
use Rattle.std.proofs.lemmas.List.Folds.{position_or_len-set}
use Rattle.std.proofs.lemmas.Bool.{eq-eqb, ne_eqb, lt-ltb, ltb-true, ltb-false, eqb-true}
use Rattle.pieces.proofs.Bytes.{both_true}
use Rattle.pieces.specs.Meaning.{use_of, full, one}

pub use_same : (p q : ℕ) → q ≡ p → use_of p q ≡ 1
use_same p q e = ap one (eq-eqb q p e)

pub use_other : (p q : ℕ) → q ≢ p → use_of p q ≡ 0
use_other p q e = ap one (ne_eqb q p e)

pub full_none : (q : ℕ) → q ≡ 0 → full q ≡ 0
full_none q e = ap (λ (b : Bool). cond b 0 1) (eq-eqb q 0 e)

pub full_some : (q : ℕ) → q ≢ 0 → full q ≡ 1
full_some q e = ap (λ (b : Bool). cond b 0 1) (ne_eqb q 0 e)

pub one-le : (b : Bool) → one b ≤ 1
one-le true = omega arith
one-le false = omega arith

pub one_true : (b : Bool) → 1 ≤ one b → b ≡ true
one_true true l = refl
one_true false l = absurd (omega arith)

module _ {X : Type 0} where
  -- two of a list
  pub two_in : (g : X → ℕ) (xs : List X) (i j : ℕ) (d : X) → i < j → j < length xs → g (get_or xs i d) + g (get_or xs j d) ≤ sum_by g xs
  two_in g [] i j d l m = absurd (omega arith)
  two_in g (x ∷ xs) i zero d l m = absurd (omega arith)
  two_in g (x ∷ xs) zero (suc j) d l m = omega (arith, sum_by-cons g x xs, get_or-le-sum_by g xs j d (omega arith))
  two_in g (x ∷ xs) (suc i) (suc j) d l m = omega (arith, sum_by-cons g x xs, two_in g xs i j d (omega arith) (omega arith))

  pub none_of : (f : X → Bool) (xs : List X) (d : X) → position f xs ≡ None → (i : ℕ) → i < length xs → f (get_or xs i d) ≡ false
  none_of f xs d e i l = go (ltb (position_or_len f xs) (length xs)) refl e
    where
      go : (b : Bool) → ltb (position_or_len f xs) (length xs) ≡ b → cond b (Some (position_or_len f xs)) None ≡ None → f (get_or xs i d) ≡ false
      go true t n = let z : ◌≡◌ {A = ℕ} 0 1 = cc in absurd (omega arith)
      go false t n = fails_before_first f xs i d (omega (arith, ltb-false (position_or_len f xs) (length xs) t))

  pub none_counted : (f : X → Bool) (xs : List X) (d : X) → ((i : ℕ) → i < length xs → f (get_or xs i d) ≡ false) → count_by f xs ≡ 0
  none_counted f [] d h = refl
  none_counted f (x ∷ xs) d h =
      let first : cond (f x) 1 0 ≡ 0 = ap one (h 0 (omega arith)) in
      omega (arith, sum_by-cons (λ (y : X). cond (f y) 1 0) x xs, none_counted f xs d (λ i l. h (suc i) (omega arith)))

  pub found_at : (f : X → Bool) (xs : List X) (i : ℕ) (d : X) → i < length xs → f (get_or xs i d) ≡ true → ((j : ℕ) → j < i → f (get_or xs j d) ≡ false) → position f xs ≡ Some i
  found_at f xs i d l t h =
      let e : position_or_len f xs ≡ i = position_or_len_is f xs i d (omega arith) h (λ m. t) in
      rw (e, lt-ltb i (length xs) l) refl

  pub only_first : (f : X → Bool) (xs : List X) (i : ℕ) (d : X) → i < length xs → f (get_or xs i d) ≡ true → count_by f xs ≤ 1 → position f xs ≡ Some i
  only_first f xs i d l t c = found_at f xs i d l t (λ j m. go j m (f (get_or xs j d)) refl)
    where
      go : (j : ℕ) → j < i → (b : Bool) → f (get_or xs j d) ≡ b → f (get_or xs j d) ≡ false
      go j m true e = absurd (omega (arith, two_in (λ (y : X). cond (f y) 1 0) xs j i d m l, ap one e, ap one t))
      go j m false e = e

  pub none_from_zero : (f : X → Bool) (xs : List X) (d : X) → count_by f xs ≡ 0 → position f xs ≡ None
  none_from_zero f xs d c = go (ltb (position_or_len f xs) (length xs)) refl
    where
      go : (b : Bool) → ltb (position_or_len f xs) (length xs) ≡ b → position f xs ≡ None
      go true t =
          let l = ltb-true (position_or_len f xs) (length xs) t in
          absurd (omega (arith, get_or-le-sum_by (λ (y : X). cond (f y) 1 0) xs (position_or_len f xs) d l, ap one (passes_at_first f xs d l)))
      go false t = rw t refl

  pub position-set_same : (f : X → Bool) (xs : List X) (i : ℕ) (y d : X) → f y ≡ f (get_or xs i d) → position f (set xs i y) ≡ position f xs
  position-set_same f xs i y d e = rw (position_or_len-set f xs i y d e, length-set xs i y) refl

  pub position-set_new : (f : X → Bool) (xs : List X) (i : ℕ) (y d : X) → position f xs ≡ None → i < length xs → f y ≡ true → position f (set xs i y) ≡ Some i
  position-set_new f xs i y d n l t =
      found_at f (set xs i y) i d (omega (arith, length-set xs i y)) (ap f (get_or-set_same xs i y d l) ∙ t) (λ j m. ap f (get_or-set_other xs i j y d (omega arith)) ∙ none_of f xs d n j (omega arith))

  pub position-set_gone : (f : X → Bool) (xs : List X) (i : ℕ) (y d : X) → count_by f xs ≤ 1 → i < length xs → f (get_or xs i d) ≡ true → f y ≡ false → position f (set xs i y) ≡ None
  position-set_gone f xs i y d c l t n =
      none_from_zero f (set xs i y) d (omega (arith, sum_by-set (λ (z : X). cond (f z) 1 0) xs i y d l, ap one t, ap one n))

  -- a default that was written
  pub get_or-set_default : (xs : List X) (i : ℕ) (d : X) → get_or (set xs i d) i d ≡ d
  get_or-set_default [] i d = refl
  get_or-set_default (x ∷ xs) zero d = refl
  get_or-set_default (x ∷ xs) (suc i) d = get_or-set_default xs i d

-- two lists whose elements pass alike
pub position_alike : {X : Type 0} (f : X → Bool) (xs ys : List X) (d : X) → length xs ≡ length ys → ((j : ℕ) → f (get_or xs j d) ≡ f (get_or ys j d)) → position_or_len f xs ≡ position_or_len f ys
position_alike f [] [] d l h = refl
position_alike f [] (y ∷ ys) d l h = absurd (omega arith)
position_alike f (x ∷ xs) [] d l h = absurd (omega arith)
position_alike f (x ∷ xs) (y ∷ ys) d l h = rw (h 0, position_alike f xs ys d (omega arith) (λ j. h (suc j))) refl

pub sum_fewer : {X : Type 0} (g : X → ℕ) (xs ys : List X) (d : X) → length xs ≡ length ys → ((j : ℕ) → g (get_or xs j d) ≤ g (get_or ys j d)) → sum_by g xs ≤ sum_by g ys
sum_fewer g [] [] d l h = omega arith
sum_fewer g [] (y ∷ ys) d l h = absurd (omega arith)
sum_fewer g (x ∷ xs) [] d l h = absurd (omega arith)
sum_fewer g (x ∷ xs) (y ∷ ys) d l h = omega (arith, sum_by-cons g x xs, sum_by-cons g y ys, h 0, sum_fewer g xs ys d (omega arith) (λ j. h (suc j)))

-- zeros are no use of a place
pub no_use : (p : ℕ) (qs : List ℕ) → list_all (λ q. q == 0) qs ≡ true → sum_by (use_of (suc p)) qs ≡ 0
no_use p [] h = refl
no_use p (q ∷ qs) h =
    let f = both_true (q == 0) (list_all (λ r. r == 0) qs) h in
    omega (arith, sum_by-cons (use_of (suc p)) q qs, use_other (suc p) q (λ e. absurd (omega (arith, eqb-true q 0 f.0))), no_use p qs f.1)

pub no_held : (qs : List ℕ) → list_all (λ q. q == 0) qs ≡ true → sum_by full qs ≡ 0
no_held [] h = refl
no_held (q ∷ qs) h =
    let f = both_true (q == 0) (list_all (λ r. r == 0) qs) h in
    omega (arith, sum_by-cons full q qs, full_none q (eqb-true q 0 f.0), no_held qs f.1)
