-- Which bundles are new, and that none becomes new again when a command is applied.
use Rattle.std.specs.Prelude.{◌≡◌, ℕ, Bool, true, false, cond, List, [], ◌∷◌}
use Rattle.std.proofs.Common.{◌⊎◌, sym, refl, ap, ◌∙◌, subst, inl, inr, arith}
use mathlib.Core.List.Memᴰ
use mathlib.Core.List.{Memᴰ}
use Rattle.std.proofs.lemmas.Bool.Decides.{nat_tests as tests}
use Rattle.agreement.proofs.Base.{by_test}
use Rattle.copies.specs.Service.{Service, Keeper}
use Rattle.copies.specs.Messages.{Bundle, Command, Session, above}
use Rattle.copies.specs.Copy.{is_new, is_nil, undone}
use Rattle.copies.specs.House.{State, bundle_done, command_done}
use Rattle.replicated.proofs.Lists.{each}
use Rattle.replicated.proofs.Replay.{Above, above_true, above_trans}

pub above_false : (i c j d : ℕ) → above i c j d ≡ false → Above i c j d → ⊥
above_false i c j d e a = absurd (grind (arith, tests))

module _ {O A : Type 0} where
  pub undone_none : (b : Bundle O) (bs : List (Bundle O)) (done : ℕ → Session A) → Memᴰ b bs → is_nil (undone bs done) ≡ true → is_new b done ≡ false
  unfolding undone
  undone_none b [] v m e = absurd (Memᴰ.not-nil m)
  undone_none b (c ∷ bs) v m e = go (is_new c v) refl e (Memᴰ.cases_cons m) (undone_none b bs v)
    where
      go : (t : Bool) → is_new c v ≡ t → is_nil (cond t (c ∷ undone bs v) (undone bs v)) ≡ true → (b ≡ c) ⊎ Memᴰ b bs → (Memᴰ b bs → is_nil (undone bs v) ≡ true → is_new b v ≡ false) → is_new b v ≡ false
      go true f g o h = absurd (let z : ◌≡◌ {A = ℕ} 0 1 = cc in omega arith)
      go false f g (inl p) h = ap (λ z. is_new z v) p ∙ f
      go false f g (inr k) h = h k g

  pub undone_in : (b : Bundle O) (bs : List (Bundle O)) (done : ℕ → Session A) → Memᴰ b bs → (is_new b done ≡ false) ⊎ Memᴰ b (undone bs done)
  unfolding undone
  undone_in b [] v m = absurd (Memᴰ.not-nil m)
  undone_in b (c ∷ bs) v m = go (is_new c v) refl (Memᴰ.cases_cons m) (undone_in b bs v)
    where
      go : (t : Bool) → is_new c v ≡ t → (b ≡ c) ⊎ Memᴰ b bs → (Memᴰ b bs → (is_new b v ≡ false) ⊎ Memᴰ b (undone bs v)) → (is_new b v ≡ false) ⊎ Memᴰ b (cond t (c ∷ undone bs v) (undone bs v))
      go true f (inl p) h = inr (Memᴰ.head p)
      go true f (inr k) h = elim (h k) [ inl x ↦ inl x | inr x ↦ inr (Memᴰ.tail x) ]
      go false f (inl p) h = inl (ap (λ z. is_new z v) p ∙ f)
      go false f (inr k) h = h k

module _ {O R : Type 0} (sv : Service O R) (kp : Keeper sv) where
  old_bundle : (n : ℕ) (c b : Bundle O) (z : State sv kp) → is_new b z.sessions ≡ false → is_new b (bundle_done sv kp n c z).sessions ≡ false
  unfolding bundle_done
  old_bundle n c b z e = by_test (λ (y : State sv kp). is_new b y.sessions ≡ false) (is_new c z.sessions) (λ t. each c.house _ z.sessions (λ h s. h ≡ b.house → above b.incarnation b.counter s.incarnation s.counter ≡ false) (λ f. here f t) (λ h _ f. subst (λ (k : ℕ). above b.incarnation b.counter (z.sessions k).incarnation (z.sessions k).counter ≡ false) (sym f) e) b.house refl) (λ _. e)
    where
      cases : (t : Bool) → above b.incarnation b.counter c.incarnation c.counter ≡ t → c.house ≡ b.house → is_new c z.sessions ≡ true → t ≡ false
      cases false g f t = refl
      cases true g f t = absurd (above_false b.incarnation b.counter _ _ e (above_trans (above_true b.incarnation b.counter _ _ g) (subst (λ (k : ℕ). Above c.incarnation c.counter (z.sessions k).incarnation (z.sessions k).counter) f (above_true c.incarnation c.counter _ _ t))))

      here : c.house ≡ b.house → is_new c z.sessions ≡ true → above b.incarnation b.counter c.incarnation c.counter ≡ false
      here f t = cases (above b.incarnation b.counter c.incarnation c.counter) refl f t

  new_done : (n : ℕ) (b : Bundle O) (z : State sv kp) → is_new b (bundle_done sv kp n b z).sessions ≡ false
  unfolding bundle_done
  new_done n b z = by_test (λ (y : State sv kp). is_new b y.sessions ≡ false) (is_new b z.sessions) (λ _. each b.house _ z.sessions (λ h s. h ≡ b.house → above b.incarnation b.counter s.incarnation s.counter ≡ false) (λ _. grind (arith, tests)) (λ h n f. absurd (n f)) b.house refl) (λ e. e)

  pub old_stays : (n : ℕ) (k : Command O) (b : Bundle O) (z : State sv kp) → is_new b z.sessions ≡ false → is_new b (command_done sv kp n k z).sessions ≡ false
  unfolding command_done
  old_stays n [] b z e = e
  old_stays n (c ∷ k) b z e = old_stays n k b (bundle_done sv kp n c z) (old_bundle n c b z e)

  pub command_new : (n : ℕ) (k : Command O) (b : Bundle O) (z : State sv kp) → Memᴰ b k → is_new b (command_done sv kp n k z).sessions ≡ false
  unfolding command_done
  command_new n [] b z m = absurd (Memᴰ.not-nil m)
  command_new n (c ∷ k) b z m = elim (Memᴰ.cases_cons m) [
    | inl e ↦ old_stays n k b (bundle_done sv kp n c z) (subst (λ (y : Bundle O). is_new b (bundle_done sv kp n y z).sessions ≡ false) e (new_done n b z))
    | inr h ↦ command_new n k b (bundle_done sv kp n c z) h
  ]
