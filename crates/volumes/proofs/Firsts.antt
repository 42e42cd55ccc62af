-- The first element that passes a test, by where it stands.
use Rattle.std.proofs.Common.{◌≡◌, ℕ, suc, ◌+◌, Bool, true, false, cond, List, [], ◌∷◌, get_or, Some, None, Option, MatchOption, refl, ap, subst, arith}
use Rattle.std.specs.List.{position_from}
use Rattle.disks.specs.Disks.{find, change}
use Rattle.volumes.specs.Service.{without, First}

module _ {A : Type 0} (f : A → Bool) where
  first_here : (x : A) (xs : List A) → f x ≡ true → First f (x ∷ xs) 0 x
  unfolding find change without
  first_here x xs e = record { at = omega arith; here = refl; found = rw e; changed = λ g. rw e; removing = rw e }

  first_later : (x y : A) (xs : List A) (i : ℕ) → f x ≡ false → First f xs i y → First f (x ∷ xs) (suc i) y
  unfolding find change without
  first_later x y xs i e p =
      record {
        at = omega (arith, p.at);
        here = p.here;
        found = rw e p.found;
        changed = λ g. rw e (ap (λ ys. x ∷ ys) (p.changed g));
        removing = rw e (ap (λ ys. x ∷ ys) p.removing);
      }

  -- where the list starts at k
  abbrev pub Lies : (k : ℕ) → List A → A → Option ℕ → Type 0
  Lies k xs d r = MatchOption r (find f xs ≡ []) (λ n. (i : ℕ) × (n ≡ i + k) × First f xs i (get_or xs i d))

  pub lies : (k : ℕ) (xs : List A) (d : A) → Lies k xs d (position_from f k xs)
  unfolding find
  lies k [] d = refl
  lies k (x ∷ xs) d = go (f x) refl (lies (k + 1) xs d)
    where
      go : (b : Bool) → f x ≡ b → Lies (k + 1) xs d (position_from f (k + 1) xs) → Lies k (x ∷ xs) d (cond b (Some k) (position_from f (k + 1) xs))
      go true e ih = (0, omega arith, first_here x xs e)
      go false e ih = later (position_from f (k + 1) xs) ih
        where
          later : (r : Option ℕ) → Lies (k + 1) xs d r → Lies k (x ∷ xs) d r
          later None h = rw e h
          later (Some n) h = (suc h.0, omega (arith, h.1), first_later x (get_or xs h.0 d) xs h.0 e h.2)

  pub lies_nowhere : (xs : List A) (d : A) → position_from f 0 xs ≡ None → find f xs ≡ []
  lies_nowhere xs d e = subst (Lies 0 xs d) e (lies 0 xs d)

  pub lies_at : (xs : List A) (i : ℕ) (d : A) → position_from f 0 xs ≡ Some i → First f xs i (get_or xs i d)
  lies_at xs i d e =
      let p = subst (Lies 0 xs d) e (lies 0 xs d) in
      let same : p.0 ≡ i = omega (arith, p.1) in
      subst (λ (k : ℕ). First f xs k (get_or xs k d)) same p.2
