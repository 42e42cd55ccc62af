-- Lists that a loop gathers: what is gathered, and what is still to come.
use Rattle.std.proofs.Common.{◌≡◌, ℕ, ◌+◌, ◌<◌, ◌≤◌, List, [], ◌∷◌, ◌++◌, length, drop, get_or, sym, ap, ◌∙◌, append_assoc, append-nil}
use Rattle.std.proofs.lemmas.List.{drop_more, drop_all}

module _ {A B : Type 0} (g : List A → List B) (F : A → List B) (nil : g [] ≡ []) (law : (x : A) (xs : List A) → g (x ∷ xs) ≡ F x ++ g xs) where
  pub gather_more : (xs : List A) (i : ℕ) (d x : A) (ys zs all : List B) → i < length xs → x ≡ get_or xs i d → zs ≡ ys ++ F x → ys ++ g (drop i xs) ≡ all → zs ++ g (drop (i + 1) xs) ≡ all
  gather_more xs i d x ys zs all inside here e was =
      ap (λ (z : List B). z ++ g (drop (i + 1) xs)) (e ∙ ap (λ (y : A). ys ++ F y) here)
      ∙ append_assoc ys (F (get_or xs i d)) (g (drop (i + 1) xs))
      ∙ ap (λ (z : List B). ys ++ z) (sym (ap g (drop_more xs i d inside) ∙ law (get_or xs i d) (drop (i + 1) xs)))
      ∙ was

  pub gather_end : (xs : List A) (i : ℕ) (ys all : List B) → length xs ≤ i → ys ++ g (drop i xs) ≡ all → ys ≡ all
  gather_end xs i ys all past e = sym (append-nil ys) ∙ ap (λ (z : List B). ys ++ z) (sym (ap g (drop_all i xs past) ∙ nil)) ∙ e
