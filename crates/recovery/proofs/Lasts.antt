-- What stands at a sector after writes: it depends on what stood there before only where no write names the sector.
use Rattle.std.proofs.Common.{◌≡◌, ℕ, ◌<◌, Bool, true, false, cond, ◌&&◌, ◌||◌, T, eqb, ltb, leb, List, [], ◌∷◌, ◌++◌, sym, refl, ap, subst, inl, inr, arith, eqb-true, leb-true}
use Rattle.std.proofs.lemmas.Bool.{cases_Bool}
use Rattle.journal.specs.Format.{guarded}
use Rattle.journal.specs.Programs.{named, all_in_area}
use Rattle.recovery.specs.Machines.{last}
use Rattle.journal.specs.declared.state.Write.{Write}

pub last-append : (as' bs : List Write) (x : List ℕ) (s : ℕ) → last (as' ++ bs) x s ≡ last bs (last as' x s) s
unfolding last
last-append [] bs x s = refl
last-append (w ∷ ws) bs x s = last-append ws bs (cond (eqb s w.target.0) w.bytes x) s

-- named: what stood there doesn't matter
pub last-named : (ws : List Write) (x y : List ℕ) (s : ℕ) → named s ws ≡ true → last ws x s ≡ last ws y s
unfolding last named
last-named [] x y s h = absurd (clash h)
  where
    clash : false ≡ true → ⊥
    clash q = subst T (sym q) tt
last-named (w ∷ ws) x y s h = go (eqb s w.target.0) h (last-named ws x y s)
  where
    go : (b : Bool) → b || named s ws ≡ true → (named s ws ≡ true → last ws x s ≡ last ws y s) → last ws (cond b w.bytes x) s ≡ last ws (cond b w.bytes y) s
    go true q more = refl
    go false q more = more q

-- not named: it stands as before
pub last_other : (ws : List Write) (x : List ℕ) (s : ℕ) → named s ws ≡ false → last ws x s ≡ x
unfolding last named
last_other [] x s h = refl
last_other (w ∷ ws) x s h = go (eqb s w.target.0) h (last_other ws x s)
  where
    go : (b : Bool) → b || named s ws ≡ false → (named s ws ≡ false → last ws x s ≡ x) → last ws (cond b w.bytes x) s ≡ x
    go true q more = absurd (subst T q tt)
    go false q more = more q

-- the same writes again change nothing
pub last-again : (ws : List Write) (x : List ℕ) (s : ℕ) → last ws (last ws x s) s ≡ last ws x s
last-again ws x s = elim (cases_Bool (named s ws)) [ inl n ↦ last-named ws (last ws x s) x s n | inr n ↦ last_other ws (last ws x s) s n ]

-- where the sector is not named, or what stood there is the same, the outcome is the same
pub last_same : (ws : List Write) (x y : List ℕ) (s : ℕ) → (named s ws ≡ false → x ≡ y) → last ws x s ≡ last ws y s
last_same ws x y s h = elim (cases_Bool (named s ws)) [ inl n ↦ last-named ws x y s n | inr n ↦ ap (λ (z : List ℕ). last ws z s) (h n) ]

-- writes within the guarded area name no sector below it
pub below-area : (size : ℕ) (ws : List Write) (s : ℕ) → T (all_in_area size ws) → s < guarded → named s ws ≡ false
unfolding all_in_area named
below-area size [] s t l = refl
below-area size (w ∷ ws) s t l = go (eqb s w.target.0) refl (leb guarded w.target.0) refl (ltb w.target.0 size) t (λ u. below-area size ws s u l)
  where
    go : (b : Bool) → eqb s w.target.0 ≡ b → (c : Bool) → leb guarded w.target.0 ≡ c → (d : Bool) → T ((c && d) && all_in_area size ws) → (T (all_in_area size ws) → named s ws ≡ false) → b || named s ws ≡ false
    go true e true f d u more = absurd (omega (arith, eqb-true s w.target.0 e, leb-true guarded w.target.0 f))
    go true e false f d u more = absurd u
    go false e true f true u more = more u
    go false e true f false u more = absurd u
    go false e false f d u more = absurd u
