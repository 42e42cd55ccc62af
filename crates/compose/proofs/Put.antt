-- A function changed at one place: what holds there of the new value, and at every other place of the old one.
use Rattle.std.specs.Prelude.{◌≡◌, refl, Bool, true, false, cond, ℕ, eqb}
use Rattle.std.proofs.Common.{sym, subst, eqb-true}
use Rattle.disks.specs.Cluster.{put}

pub at_put : (i : ℕ) (P : Bool → ℕ → Type 0) → P true i → (k : ℕ) → P false k → P (eqb k i) k
at_put i P here k other = go (eqb k i) refl
  where
    go : (b : Bool) → eqb k i ≡ b → P b k
    go true e = subst (P true) (sym (eqb-true _ _ e)) here
    go false e = other

pub both-put : {A B : Type 0} (P : ℕ → A → B → Type 0) (i : ℕ) (s : A) (u : B) (hs : ℕ → A) (ks : ℕ → B) → P i s u → ((j : ℕ) → P j (hs j) (ks j)) → (j : ℕ) → P j (put i s hs j) (put i u ks j)
both-put P i s u hs ks here others j = at_put i (λ b k. P k (cond b s (hs k)) (cond b u (ks k))) here j (others j)
