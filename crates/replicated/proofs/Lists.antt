-- Lists: taking a member out, members that differ, and the calls of a bundle among all calls.
use Rattle.std.proofs.Common.{◌≡◌, ℕ, cond, ◌&&◌, eqb, ◌≢◌, ◌⊎◌, List, [], ◌∷◌, ◌++◌, sym, refl, ap, ◌∙◌, subst, inl, inr, arith, eqb-true}
use mathlib.Core.Path.{fun_ext}
use mathlib.Core.List.Memᴰ
use mathlib.Core.List.{Memᴰ}
use native.Mathlib.Decide.{ℕ_discrete}
use Rattle.std.proofs.lemmas.Bool.Decides.{nat_tests}
use Rattle.agreement.proofs.Base.{by_test, by_three}
use Rattle.disks.specs.Cluster.{put}
use Rattle.copies.specs.Messages.{Item}

-- x is taken out of l
pub record Cut {A : Type 0} (x : A) (l : List A) : Type 0 where
  pub before : List A
  pub behind : List A
  pub is : l ≡ before ++ x ∷ behind
  pub still : (y : A) → Memᴰ y l → (y ≡ x → ⊥) → Memᴰ y (before ++ behind)

cut_more : {A : Type 0} {x : A} (z : A) {l : List A} → Cut x l → Cut x (z ∷ l)
cut_more z c =
    record {
      before = z ∷ c.before;
      behind = c.behind;
      is = ap (λ k. z ∷ k) c.is;
      still = λ y m n. elim (Memᴰ.cases_cons m) [ inl e ↦ Memᴰ.head e | inr m' ↦ Memᴰ.tail (c.still y m' n) ];
    }

pub cut : {A : Type 0} {x : A} (l : List A) → Memᴰ x l → Cut x l
cut [] m = absurd (Memᴰ.not-nil m)
cut {x = x} (z ∷ l) m = elim (Memᴰ.cases_cons m) [
  | inl e ↦ record { before = []; behind = l; is = ap (λ k. k ∷ l) (sym e); still = λ y m' n. elim (Memᴰ.cases_cons m') [ inl f ↦ absurd (n (f ∙ sym e)) | inr m'' ↦ m'' ] }
  | inr m' ↦ cut_more z (cut l m')
]

abbrev pub Apart : {A : Type 0} → (A → ℕ) → List A → Type 0
Apart f [] = Unit {0}
Apart {A} f (x ∷ xs) = ((y : A) → Memᴰ y xs → f y ≢ f x) × Apart f xs

pub apart_unique : {A : Type 0} (f : A → ℕ) (l : List A) → Apart f l → (x y : A) → Memᴰ x l → Memᴰ y l → f x ≡ f y → x ≡ y
apart_unique f [] a x y m n e = absurd (Memᴰ.not-nil m)
apart_unique f (z ∷ l) a x y m n e = elim (Memᴰ.cases_cons m) [
  | inl p ↦ elim (Memᴰ.cases_cons n) [ inl q ↦ p ∙ sym q | inr n' ↦ absurd (a.0 y n' (sym e ∙ ap f p)) ]
  | inr m' ↦ elim (Memᴰ.cases_cons n) [ inl q ↦ absurd (a.0 x m' (e ∙ ap f q)) | inr n' ↦ apart_unique f l a.1 x y m' n' e ]
]

-- one more at the end
pub in_last : {A : Type 0} {x z : A} (l : List A) → Memᴰ x (l ++ z ∷ []) → Memᴰ x l ⊎ (x ≡ z)
in_last [] m = elim (Memᴰ.cases_cons m) [ inl e ↦ inr e | inr n ↦ inl n ]
in_last (y ∷ l) m = elim (Memᴰ.cases_cons m) [ inl e ↦ inl (Memᴰ.head e) | inr n ↦ elim (in_last l n) [ inl k ↦ inl (Memᴰ.tail k) | inr e ↦ inr e ] ]

apart_last : {A : Type 0} (f : A → ℕ) (l : List A) (z : A) → Apart f l → ((y : A) → Memᴰ y l → f y ≢ f z) → Apart f (l ++ z ∷ [])
apart_last f [] z a n = (λ y m. absurd (Memᴰ.not-nil m), tt)
apart_last f (x ∷ l) z a n = (λ y m. elim (in_last l m) [ inl k ↦ a.0 y k | inr e ↦ λ g. n x (Memᴰ.head refl) (sym g ∙ ap f e) ], apart_last f l z a.1 (λ y m. n y (Memᴰ.tail m)))

-- a call that was made, and the bundle that it belongs to
pub record Homed (O : Type 0) : Type 0 where
  pub house : ℕ
  pub incarnation : ℕ
  pub counter : ℕ
  pub id : ℕ
  pub call : O

abbrev pub item : {O : Type 0} → Homed O → Item O
item a = record { id = a.id; call = a.call }

pub slot : {O : Type 0} → List (Homed O) → (h i c : ℕ) → List (Item O)
slot [] h i c = []
slot (a ∷ l) h i c = cond (eqb a.house h && (eqb a.incarnation i && eqb a.counter c)) (slot l h i c ++ item a ∷ []) (slot l h i c)

pub record Of {O : Type 0} (l : List (Homed O)) (h i c : ℕ) (x : Item O) : Type 0 where
  pub a : Homed O
  pub inside : Memᴰ a l
  pub house_is : a.house ≡ h
  pub inc_is : a.incarnation ≡ i
  pub ctr_is : a.counter ≡ c
  pub is : x ≡ item a

of_more : {O : Type 0} {l : List (Homed O)} {h i c : ℕ} {x : Item O} (z : Homed O) → Of l h i c x → Of (z ∷ l) h i c x
of_more z f = record { a = f.a; inside = Memᴰ.tail f.inside; house_is = f.house_is; inc_is = f.inc_is; ctr_is = f.ctr_is; is = f.is }

pub slot_of : {O : Type 0} (l : List (Homed O)) (h i c : ℕ) (x : Item O) → Memᴰ x (slot l h i c) → Of l h i c x
unfolding slot
slot_of [] h i c x m = absurd (Memᴰ.not-nil m)
slot_of {O} (z ∷ l) h i c x m = go (λ m'. of_more z (slot_of l h i c x m')) m
  where
    go : (Memᴰ x (slot l h i c) → Of (z ∷ l) h i c x) → Memᴰ x (cond (eqb z.house h && (eqb z.incarnation i && eqb z.counter c)) (slot l h i c ++ item z ∷ []) (slot l h i c)) → Of (z ∷ l) h i c x
    go below =
        by_three (λ k. Memᴰ x k → Of (z ∷ l) h i c x) (eqb z.house h) (eqb z.incarnation i) (eqb z.counter c)
        (λ p q r m'. elim (in_last (slot l h i c) m') [
          | inr e ↦ record { a = z; inside = Memᴰ.head refl; house_is = eqb-true _ _ p; inc_is = eqb-true _ _ q; ctr_is = eqb-true _ _ r; is = e }
          | inl n ↦ below n
        ]) below

pub slot_skip : {O : Type 0} (a : Homed O) (l : List (Homed O)) (h i c : ℕ) → (a.house ≡ h → a.incarnation ≡ i → a.counter ≡ c → ⊥) → slot (a ∷ l) h i c ≡ slot l h i c
unfolding slot
slot_skip a l h i c n = by_three (λ k. k ≡ slot l h i c) (eqb a.house h) (eqb a.incarnation i) (eqb a.counter c) (λ p q r. absurd (n (eqb-true _ _ p) (eqb-true _ _ q) (eqb-true _ _ r))) refl

pub slot_take : {O : Type 0} (a : Homed O) (l : List (Homed O)) (h i c : ℕ) → a.house ≡ h → a.incarnation ≡ i → a.counter ≡ c → slot (a ∷ l) h i c ≡ slot l h i c ++ item a ∷ []
unfolding slot
slot_take a l h i c p q r = grind (arith, nat_tests)

pub slot_none : {O : Type 0} (l : List (Homed O)) (h i c : ℕ) → ((a : Homed O) → Memᴰ a l → a.house ≡ h → a.incarnation ≡ i → a.counter ≡ c → ⊥) → slot l h i c ≡ []
unfolding slot
slot_none [] h i c n = refl
slot_none (a ∷ l) h i c n = slot_skip a l h i c (n a (Memᴰ.head refl)) ∙ slot_none l h i c (λ b m. n b (Memᴰ.tail m))

pub slot_apart : {O : Type 0} (l : List (Homed O)) (h i c : ℕ) → Apart (λ (a : Homed O). a.id) l → Apart (λ (x : Item O). x.id) (slot l h i c)
unfolding slot
slot_apart [] h i c a = tt
slot_apart {O} (z ∷ l) h i c a =
    by_three (λ k. Apart (λ (x : Item O). x.id) k) (eqb z.house h) (eqb z.incarnation i) (eqb z.counter c)
    (λ p q r. apart_last (λ (x : Item O). x.id) (slot l h i c) (item z) (slot_apart l h i c a.1) (λ y m e. let f = slot_of l h i c y m in a.0 f.a f.inside (sym (ap (λ (t : Item O). t.id) f.is) ∙ e))) (slot_apart l h i c a.1)

-- one house's new state
pub put_here : {A : Type 0} (i : ℕ) (s : A) (hs : ℕ → A) → put i s hs i ≡ s
put_here i s hs = grind (arith, nat_tests)

pub put_other : {A : Type 0} (i : ℕ) (s : A) (hs : ℕ → A) (j : ℕ) → j ≢ i → put i s hs j ≡ hs j
put_other i s hs j n = grind (arith, nat_tests)

pub put_same : {A : Type 0} (i : ℕ) (s : A) (hs : ℕ → A) → hs i ≡ s → hs ≡ put i s hs
put_same i s hs e = fun_ext (λ j. by_test (λ z. hs j ≡ z) (eqb j i) (λ t. ap hs (eqb-true _ _ t) ∙ e) (λ _. refl))

module _ {A : Type 0} (i : ℕ) (s : A) (hs : ℕ → A) (P : ℕ → A → Type 0) where
  pub here : ((j : ℕ) → P j (put i s hs j)) → P i s
  here f = subst (P i) (put_here i s hs) (f i)

  pub there : ((j : ℕ) → P j (put i s hs j)) → (j : ℕ) → j ≢ i → P j (hs j)
  there f j n = subst (P j) (put_other i s hs j n) (f j)

  pub each : P i s → ((j : ℕ) → j ≢ i → P j (hs j)) → (j : ℕ) → P j (put i s hs j)
  each mine other j = go (ℕ_discrete j i)
    where
      go : Dec (j ≡ i) → P j (put i s hs j)
      go (yes e) = subst (λ (n : ℕ). P n (put i s hs n)) (sym e) (subst (P i) (sym (put_here i s hs)) mine)
      go (no n) = subst (P j) (sym (put_other i s hs j n)) (other j n)
