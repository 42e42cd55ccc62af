-- Snapshots, proposals, choices, and how they grow.
use Rattle.std.proofs.Common.{◌≡◌, ℕ, suc, ◌<◌, Bool, true, false, cond, ◌&&◌, ◌≢◌, ◌⊎◌, List, ◌∷◌, refl, ap, inl, inr, arith}
use mathlib.Core.List.Memᴰ
use mathlib.Core.List.{Memᴰ}
use Rattle.std.proofs.lemmas.Bool.Decides.{nat_tests}
use Rattle.agreement.specs.Copies.{voted, Copy, Msg, World, fresh, put}

-- cases on a test, with what it said
pub by_test : {A : Type 0} (P : A → Type 0) (b : Bool) {x y : A} → (b ≡ true → P x) → (b ≡ false → P y) → P (cond b x y)
by_test P true f g = f refl
by_test P false f g = g refl

pub by_both : {A : Type 0} (P : A → Type 0) (a b : Bool) {x y : A} → (a ≡ true → b ≡ true → P x) → P y → P (cond (a && b) x y)
by_both P true b f g = by_test P b (f refl) (λ _. g)
by_both P false b f g = g

pub by_three : {A : Type 0} (P : A → Type 0) (a b c : Bool) {x y : A} → (a ≡ true → b ≡ true → c ≡ true → P x) → P y → P (cond (a && (b && c)) x y)
by_three P true b c f g = by_both P b c (f refl) g
by_three P false b c f g = g

pub record Snap {K : Type 0} (w : World K) (r : ℕ) (x : Copy K) : Type 0 where
  pub small : r < 3
  pub seen : Memᴰ (record { from = r; what = x }) w.sent ⊎ (x ≡ fresh)

-- command k was proposed for place s under ballot b
pub record Prop {K : Type 0} (w : World K) (b s : ℕ) (k : K) : Type 0 where
  pub who : ℕ
  pub at : Copy K
  pub snap : Snap w who at
  pub votes : at.proposal ≡ voted b k
  pub place : at.version ≡ s

pub record Chosen {K : Type 0} (w : World K) (b s : ℕ) (k : K) : Type 0 where
  pub who : ℕ
  pub at : Copy K
  pub rest : List K
  pub snap : Snap w who at
  pub ahead : at.version ≡ suc s
  pub under : at.last ≡ b
  pub has : at.history ≡ k ∷ rest

module _ {K : Type 0} (w : World K) (i : ℕ) (c : Copy K) where
  pub copy_here : (put w i c).copy i ≡ c
  copy_here = grind (arith, nat_tests)

  pub copy_other : (j : ℕ) → j ≢ i → (put w i c).copy j ≡ w.copy j
  copy_other j ne = grind (arith, nat_tests)

  pub snap_new : i < 3 → Snap (put w i c) i c
  snap_new h = record { small = h; seen = inl (Memᴰ.head refl) }

  pub snap_grows : {r : ℕ} {x : Copy K} → Snap w r x → Snap (put w i c) r x
  snap_grows h = record { small = h.small; seen = elim h.seen [ inl m ↦ inl (Memᴰ.tail m) | inr e ↦ inr e ] }

  pub snap_back : {r : ℕ} {x : Copy K} → Snap (put w i c) r x → Snap w r x ⊎ ((r ≡ i) × (x ≡ c))
  snap_back {r} {x} h = elim h.seen [
    | inl m ↦ elim (Memᴰ.cases_cons m) [ inl e ↦ inr (ap (λ (m : Msg K). m.from) e, ap (λ (m : Msg K). m.what) e) | inr m ↦ inl (record { small = h.small; seen = inl m }) ]
    | inr e ↦ inl (record { small = h.small; seen = inr e })
  ]

  pub prop_grows : {b s : ℕ} {k : K} → Prop w b s k → Prop (put w i c) b s k
  prop_grows h = search snap_grows

  pub prop_back : {b s : ℕ} {k : K} → Prop (put w i c) b s k → Prop w b s k ⊎ ((c.proposal ≡ voted b k) × (c.version ≡ s))
  prop_back h = elim (snap_back h.snap) [
    | inl q ↦ inl (record { who = h.who; at = h.at; snap = q; votes = h.votes; place = h.place })
    | inr e ↦ inr (cc, cc)
  ]

  pub chosen_back : {b s : ℕ} {k : K} → Chosen (put w i c) b s k → Chosen w b s k ⊎ ((rest : List K) × (c.version ≡ suc s) × (c.last ≡ b) × (c.history ≡ k ∷ rest))
  chosen_back h = elim (snap_back h.snap) [
    | inl q ↦ inl (record { who = h.who; at = h.at; rest = h.rest; snap = q; ahead = h.ahead; under = h.under; has = h.has })
    | inr e ↦ inr (h.rest, cc, cc, cc)
  ]
