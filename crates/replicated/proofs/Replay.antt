-- Sessions only rise, and stem from bundles.
use Rattle.std.proofs.Common.{◌≡◌, ℕ, suc, ◌<◌, ◌≤◌, Bool, true, false, ◌&&◌, ◌||◌, eqb, ltb, ◌⊎◌, List, [], ◌∷◌, ◌++◌, length, sym, refl, ap, ◌∙◌, subst, inl, inr, arith, ltb-true, eqb-true}
use mathlib.Core.List.{Memᴰ}
use Rattle.agreement.proofs.Base.{by_test}
use Rattle.copies.specs.Service.{Service}
use Rattle.copies.specs.Messages.{Item, Bundle, Command, Session, above, unused}
use Rattle.copies.specs.Copy.{is_new}
use Rattle.copies.specs.Promise.{Place, left_by, Played, replies, bundle_played, command_played, replay}
use Rattle.replicated.proofs.Lists.{each}

-- (i, c) is above (j, d)
abbrev pub Above : (i c j d : ℕ) → Type 0
Above i c j d = (j < i) ⊎ ((j ≡ i) × (d < c))

-- (i, c) is at most (j, d)
abbrev pub Upto : (i c j d : ℕ) → Type 0
Upto i c j d = (i < j) ⊎ ((i ≡ j) × (c ≤ d))

pub above_true : (i c j d : ℕ) → above i c j d ≡ true → Above i c j d
above_true i c j d e = go (ltb j i) refl e
  where
    both : (p q : Bool) → (p && q) ≡ true → (p ≡ true) × (q ≡ true)
    both true q e = (refl, e)
    both false q e = absurd (let z : ◌≡◌ {A = ℕ} 0 1 = cc in omega arith)

    go : (t : Bool) → ltb j i ≡ t → (t || (eqb j i && ltb d c)) ≡ true → Above i c j d
    go true f g = inl (ltb-true _ _ f)
    go false f g = let z = both (eqb j i) (ltb d c) g in inr (eqb-true _ _ z.0, ltb-true _ _ z.1)

pub above_trans : {i c j d k e : ℕ} → Above i c j d → Above j d k e → Above i c k e
above_trans (inl p) (inl q) = inl (omega arith)
above_trans (inl p) (inr q) = inl (omega arith)
above_trans (inr p) (inl q) = inl (omega arith)
above_trans (inr p) (inr q) = inr (omega arith)

pub above_upto : {i c j d : ℕ} → Above i c j d → Upto i c j d → ⊥
above_upto p q = omega arith

module _ {O R : Type 0} (sv : Service O R) where
  abbrev pub Rises : (v v' : Played sv) → Type 0
  Rises v v' = (h : ℕ) → Above (v'.sessions h).incarnation (v'.sessions h).counter (v.sessions h).incarnation (v.sessions h).counter ⊎ (v'.sessions h ≡ v.sessions h)

  pub rises_trans : (u v w : Played sv) → Rises u v → Rises v w → Rises u w
  rises_trans u v w f g h = go (f h) (g h)
    where
      go : Above (v.sessions h).incarnation (v.sessions h).counter (u.sessions h).incarnation (u.sessions h).counter ⊎ (v.sessions h ≡ u.sessions h) →
          Above (w.sessions h).incarnation (w.sessions h).counter (v.sessions h).incarnation (v.sessions h).counter ⊎ (w.sessions h ≡ v.sessions h) →
          Above (w.sessions h).incarnation (w.sessions h).counter (u.sessions h).incarnation (u.sessions h).counter ⊎ (w.sessions h ≡ u.sessions h)
      go (inl p) (inl q) = inl (above_trans q p)
      go (inl p) (inr q) = inl (subst (λ (s : Session sv.A). Above s.incarnation s.counter (u.sessions h).incarnation (u.sessions h).counter) (sym q) p)
      go (inr p) (inl q) = inl (subst (λ (s : Session sv.A). Above (w.sessions h).incarnation (w.sessions h).counter s.incarnation s.counter) p q)
      go (inr p) (inr q) = inr (q ∙ p)

  pub bundle_rises : (b : Bundle O) (v : Played sv) → Rises v (bundle_played sv b v)
  unfolding bundle_played
  bundle_rises b v =
      by_test (Rises v) (is_new b v.sessions)
      (λ t. each b.house _ v.sessions (λ h s. Above s.incarnation s.counter (v.sessions h).incarnation (v.sessions h).counter ⊎ (s ≡ v.sessions h))
      (inl (above_true b.incarnation b.counter (v.sessions b.house).incarnation (v.sessions b.house).counter t)) (λ h _. inr refl)) (λ _ h. inr refl)

  pub command_rises : (k : Command O) (v : Played sv) → Rises v (command_played sv k v)
  unfolding command_played
  command_rises [] v = λ h. inr refl
  command_rises (b ∷ k) v = rises_trans v (bundle_played sv b v) (command_played sv k (bundle_played sv b v)) (bundle_rises b v) (command_rises k (bundle_played sv b v))

  pub replay_rises : (newer old : List (Command O)) → Rises (replay sv old) (replay sv (newer ++ old))
  unfolding replay
  replay_rises [] old = λ h. inr refl
  replay_rises (k ∷ newer) old = rises_trans (replay sv old) (replay sv (newer ++ old)) (replay sv (k ∷ newer ++ old)) (replay_rises newer old) (command_rises k (replay sv (newer ++ old)))

  pub replies_length : (xs : List (Item O)) (s : Place sv) → length (replies sv xs s) ≡ length xs
  unfolding replies
  replies_length [] s = refl
  replies_length (x ∷ xs) s = ap suc (replies_length xs (left_by sv x.call s))

  -- a session is that of a bundle
  abbrev pub Stems : List (Bundle O) → ℕ → Session sv.A → Type 0
  Stems made h s =
      (s ≡ unused) ⊎
      ((b : Bundle O) × Memᴰ b made × (b.house ≡ h) × (b.incarnation ≡ s.incarnation) × (b.counter ≡ s.counter) × (length s.replies ≡ length b.calls) × (st : Place sv) × (s.replies ≡ replies sv b.calls st))

  abbrev pub Within : List (Bundle O) → Command O → Type 0
  Within made k = (b : Bundle O) → Memᴰ b k → Memᴰ b made

  pub bundle_stems : (made : List (Bundle O)) (b : Bundle O) (v : Played sv) → Memᴰ b made → ((h : ℕ) → Stems made h (v.sessions h)) → (h : ℕ) → Stems made h ((bundle_played sv b v).sessions h)
  unfolding bundle_played
  bundle_stems made b v m f =
      by_test (λ (z : Played sv). (h : ℕ) → Stems made h (z.sessions h)) (is_new b v.sessions)
      (λ t. each b.house _ v.sessions (Stems made) (inr (b, m, refl, refl, refl, replies_length b.calls v.place, v.place, refl)) (λ h _. f h)) (λ _. f)

  pub command_stems : (made : List (Bundle O)) (k : Command O) (v : Played sv) → Within made k → ((h : ℕ) → Stems made h (v.sessions h)) → (h : ℕ) → Stems made h ((command_played sv k v).sessions h)
  unfolding command_played
  command_stems made [] v m f = f
  command_stems made (b ∷ k) v m f = command_stems made k (bundle_played sv b v) (λ c n. m c (Memᴰ.tail n)) (bundle_stems made b v (m b (Memᴰ.head refl)) f)

  pub replay_stems : (made : List (Bundle O)) (l : List (Command O)) → ((k : Command O) → Memᴰ k l → Within made k) → (h : ℕ) → Stems made h ((replay sv l).sessions h)
  unfolding replay
  replay_stems made [] m = λ h. inl refl
  replay_stems made (k ∷ l) m = command_stems made k (replay sv l) (m k (Memᴰ.head refl)) (replay_stems made l (λ c n. m c (Memᴰ.tail n)))
