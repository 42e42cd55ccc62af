-- Runs with help, put together; what was pending is pending or told; at least two copies are in a group.
use Rattle.std.proofs.Common.{◌≡◌, ℕ, zero, suc, ◌+◌, ◌<◌, ◌≤◌, Bool, true, false, cond, not, ◌&&◌, T, eqb, ltb, ◌≢◌, ◌⊎◌, List, [], ◌∷◌, ◌++◌, length, sym, refl, ap, ◌∙◌, subst, inl, inr, arith, ltb-true, eq-eqb, eqb-true}
use mathlib.Core.List.Memᴰ
use mathlib.Core.List.{Memᴰ}
use native.Mathlib.Decide.{ℕ_discrete}
use borrow.Author.Tests.{eqb-false}
use Rattle.agreement.proofs.Base.{by_test, by_both}
use Rattle.disks.specs.Cluster.{From, Tick, Out, To, Tell, Seen, answered, Packet, Asking, packets, tells, settled, without, distinct, inside, away}
use Rattle.compose.specs.Pure.{Pure, World, PureHelped, still, rising, doing, ticking}
use Rattle.replicated.proofs.Lists.{Apart}
use Rattle.replicated.proofs.Pending.{settled_in}

join_join : {A : Type 0} (a b c : List A) → (a ++ b) ++ c ≡ a ++ (b ++ c)
join_join [] b c = refl
join_join (x ∷ a) b c = ap (λ l. x ∷ l) (join_join a b c)

-- a call that is pending is told or pending yet
without_kept : (i k : ℕ) (ps : List Asking) (a : Asking) → Memᴰ a ps → Memᴰ a (without i k ps) ⊎ ((a.house ≡ i) × (a.id ≡ k))
unfolding without
without_kept i k [] a m = inl m
without_kept i k (b ∷ ps) a m = go (without_kept i k ps a) (Memᴰ.cases_cons m)
  where
    go : (Memᴰ a ps → Memᴰ a (without i k ps) ⊎ ((a.house ≡ i) × (a.id ≡ k))) → (a ≡ b) ⊎ Memᴰ a ps → Memᴰ a (cond (eqb i b.house && eqb k b.id) (without i k ps) (b ∷ without i k ps)) ⊎ ((a.house ≡ i) × (a.id ≡ k))
    go f (inl e) = by_both (λ (z : List Asking). Memᴰ a z ⊎ ((a.house ≡ i) × (a.id ≡ k))) (eqb i b.house) (eqb k b.id) (λ p q. inr (ap (λ (z : Asking). z.house) e ∙ sym (eqb-true _ _ p), ap (λ (z : Asking). z.id) e ∙ sym (eqb-true _ _ q))) (inl (Memᴰ.head e))
    go f (inr n) = by_test (λ (z : List Asking). Memᴰ a z ⊎ ((a.house ≡ i) × (a.id ≡ k))) (eqb i b.house && eqb k b.id) (λ _. f n) (λ _. elim (f n) [ inl y ↦ inl (Memᴰ.tail y) | inr y ↦ inr y ])

without_gone : (i k : ℕ) (ps : List Asking) (a : Asking) → a.house ≡ i → a.id ≡ k → Memᴰ a (without i k ps) → ⊥
unfolding without
without_gone i k [] a e f m = Memᴰ.not-nil m
without_gone i k (b ∷ ps) a e f m = go (without_gone i k ps a e f) m
  where
    go : (Memᴰ a (without i k ps) → ⊥) → Memᴰ a (cond (eqb i b.house && eqb k b.id) (without i k ps) (b ∷ without i k ps)) → ⊥
    go g = by_case (eqb i b.house) (eqb k b.id) refl refl
      where
        by_case : (p q : Bool) → eqb i b.house ≡ p → eqb k b.id ≡ q → Memᴰ a (cond (p && q) (without i k ps) (b ∷ without i k ps)) → ⊥
        by_case true true u v n = g n
        by_case true false u v n = elim (Memᴰ.cases_cons n) [ inl z ↦ eqb-false _ _ v (sym f ∙ ap (λ (y : Asking). y.id) z) | inr z ↦ g z ]
        by_case false q u v n = elim (Memᴰ.cases_cons n) [ inl z ↦ eqb-false _ _ u (sym e ∙ ap (λ (y : Asking). y.house) z) | inr z ↦ g z ]

module _ {M R : Type 0} where
  pub settled_gone : (i k : ℕ) (r : R) (os : List (Out M R)) (ps : List Asking) (a : Asking) → Memᴰ (Tell k r) os → a.house ≡ i → a.id ≡ k → Memᴰ a (settled i os ps) → ⊥
  unfolding settled
  settled_gone i k r [] ps a n e f m = Memᴰ.not-nil n
  settled_gone i k r (To j x ∷ os) ps a n e f m = elim (Memᴰ.cases_cons n) [ inl z ↦ let q : ◌≡◌ {A = ℕ} 0 1 = cc in omega arith | inr z ↦ settled_gone i k r os ps a z e f m ]
  settled_gone i k r (Tell l s ∷ os) ps a n e f m = elim (Memᴰ.cases_cons n) [
    | inl z ↦ without_gone i l ps a e (f ∙ (let q : k ≡ l = cc in q)) (settled_in i os (without i l ps) a m)
    | inr z ↦ settled_gone i k r os (without i l ps) a z e f m
  ]

  pub settled_kept : {O : Type 0} (i : ℕ) (os : List (Out M R)) (ps : List Asking) (a : Asking) → Memᴰ a ps → Memᴰ a (settled i os ps) ⊎ ((r : R) × Memᴰ {A = Seen O R} (answered a.house a.id r) (tells i os))
  unfolding settled tells
  settled_kept i [] ps a m = inl m
  settled_kept i (To j x ∷ os) ps a m = settled_kept i os ps a m
  settled_kept {O = O} i (Tell k r ∷ os) ps a m = elim (without_kept i k ps a m) [
    | inl n ↦ elim (settled_kept {O = O} i os (without i k ps) a n) [ inl z ↦ inl z | inr z ↦ inr (z.0, Memᴰ.tail z.1) ]
    | inr e ↦ inr (r, Memᴰ.head (ap (λ (x : ℕ). answered x a.id r) e.0 ∙ ap (λ (x : ℕ). answered i x r) e.1))
  ]

module _ {M O R : Type 0} (h : Pure M O R) (all : ℕ) (group : List ℕ) where
  pub news_of : {steps : ℕ} {es fs : List (Seen O R)} {w v : World h.Mem h.D M} → PureHelped h all group steps es w fs v → (news : List (Packet M)) × (v.wire ≡ news ++ w.wire)
  news_of still = ([], refl)
  news_of (rising i d g r e) = news_of r
  news_of (doing i m d p news g k r e wi mp to) = let z = news_of r in (packets i (h.does (From p.from p.what) m d).out ++ z.0, ap (λ l. packets i (h.does (From p.from p.what) m d).out ++ l) z.1 ∙ sym (join_join (packets i (h.does (From p.from p.what) m d).out) z.0 _))
  news_of (ticking i m d g r e) = let z = news_of r in (packets i (h.does Tick m d).out ++ z.0, ap (λ l. packets i (h.does Tick m d).out ++ l) z.1 ∙ sym (join_join (packets i (h.does Tick m d).out) z.0 _))

  counted : {n k : ℕ} {es fs : List (Seen O R)} {w v : World h.Mem h.D M} → n ≡ k → PureHelped h all group n es w fs v → PureHelped h all group k es w fs v
  counted {es = es} {fs = fs} {w = w} {v = v} e r = subst (λ (n : ℕ). PureHelped h all group n es w fs v) e r

  pub helped_then : {n k : ℕ} {es fs gs : List (Seen O R)} {w v u : World h.Mem h.D M} → PureHelped h all group n es w fs v → PureHelped h all group k fs v gs u → PureHelped h all group (k + n) es w gs u
  helped_then a still = counted (omega arith) a
  helped_then a (rising i d g r e) = counted (omega arith) (rising i d g (helped_then a r) e)
  helped_then a (doing i m d p news g k r e wi mp to) =
      let z = news_of a in
      counted (omega arith) (doing i m d p (news ++ z.0) g k (helped_then a r) e (wi ∙ ap (λ l. news ++ l) z.1 ∙ sym (join_join news z.0 _)) (Memᴰ.append_left _ mp) to)
  helped_then a (ticking i m d g r e) = counted (omega arith) (ticking i m d g (helped_then a r) e)

  pub pending_in : {steps : ℕ} {es fs : List (Seen O R)} {w v : World h.Mem h.D M} → PureHelped h all group steps es w fs v → (a : Asking) → Memᴰ a v.pending → Memᴰ a w.pending
  pending_in still a m = m
  pending_in (rising i d g r e) a m = pending_in r a m
  pending_in (doing i n d p news g k r e wi mp to) a m = pending_in r a (settled_in i _ _ a m)
  pending_in (ticking i n d g r e) a m = pending_in r a (settled_in i _ _ a m)

  pub kept_or_told : {steps : ℕ} {es fs : List (Seen O R)} {w v : World h.Mem h.D M} → PureHelped h all group steps es w fs v → (a : Asking) → Memᴰ a w.pending → Memᴰ a v.pending ⊎ ((r : R) × Memᴰ (answered a.house a.id r) fs)
  kept_or_told still a m = inl m
  kept_or_told (rising i d g r e) a m = kept_or_told r a m
  kept_or_told (doing i n d p news g k r e wi mp to) a m = elim (kept_or_told r a m) [
    | inl z ↦ elim (settled_kept {O = O} i (h.does (From p.from p.what) n d).out _ a z) [ inl y ↦ inl y | inr y ↦ inr (y.0, Memᴰ.append_left _ y.1) ]
    | inr z ↦ inr (z.0, Memᴰ.append_right _ z.1)
  ]
  kept_or_told (ticking i n d g r e) a m = elim (kept_or_told r a m) [
    | inl z ↦ elim (settled_kept {O = O} i (h.does Tick n d).out _ a z) [ inl y ↦ inl y | inr y ↦ inr (y.0, Memᴰ.append_left _ y.1) ]
    | inr z ↦ inr (z.0, Memᴰ.append_right _ z.1)
  ]

-- a list of different numbers below n has no more than n
both : (a b : Bool) → T (a && b) → T a × T b
both true b t = (tt, t)
both false b t = elim t [ ]

is_true : (b : Bool) → T b → b ≡ true
is_true true t = refl
is_true false t = elim t [ ]

not-true : (b : Bool) → T (not b) → b ≡ true → ⊥
not-true true t e = t
not-true false t e = let z : ◌≡◌ {A = ℕ} 0 1 = cc in omega arith

away_not : (i : ℕ) (l : List ℕ) → T (away i l) → (j : ℕ) → Memᴰ j l → j ≢ i
unfolding away
away_not i [] t j m = absurd (Memᴰ.not-nil m)
away_not i (k ∷ l) t j m = let z = both (not (eqb i k)) (away i l) t in elim (Memᴰ.cases_cons m) [ inl e ↦ λ f. not-true (eqb i k) z.0 (eq-eqb _ _ (sym f ∙ e)) | inr n ↦ away_not i l z.1 j n ]

abbrev Unlike : List ℕ → Type 0
Unlike l = Apart (λ (x : ℕ). x) l

pub distinct_apart : (l : List ℕ) → T (distinct l) → Unlike l
unfolding distinct
distinct_apart [] t = tt
distinct_apart (i ∷ l) t = let z = both (away i l) (distinct l) t in (λ y m. away_not i l z.0 y m, distinct_apart l z.1)

pub inside_low : (n : ℕ) (l : List ℕ) → T (inside n l) → (x : ℕ) → Memᴰ x l → x < n
unfolding inside
inside_low n [] t x m = absurd (Memᴰ.not-nil m)
inside_low n (y ∷ l) t x m = let z = both (ltb y n) (inside n l) t in elim (Memᴰ.cases_cons m) [ inl e ↦ omega (arith, e, ltb-true y n (is_true (ltb y n) z.0)) | inr k ↦ inside_low n l z.1 x k ]

drop : ℕ → List ℕ → List ℕ
drop n [] = []
drop n (x ∷ l) = cond (eqb x n) l (x ∷ drop n l)

record Dropped (n : ℕ) (l k : List ℕ) : Type 0 where
  pub inside : (y : ℕ) → Memᴰ y k → Memᴰ y l × (y ≢ n)
  pub unlike : Unlike k
  pub long : length l ≤ suc (length k)

drops : (n : ℕ) (l : List ℕ) → Unlike l → Dropped n l (drop n l)
unfolding drop
drops n [] u = record { inside = λ y m. absurd (Memᴰ.not-nil m); unlike = tt; long = omega arith }
drops n (x ∷ l) u = go (drops n l u.1)
  where
    go : Dropped n l (drop n l) → Dropped n (x ∷ l) (cond (eqb x n) l (x ∷ drop n l))
    go d =
        by_test (λ (k : List ℕ). Dropped n (x ∷ l) k) (eqb x n) (λ e. record { inside = λ y m. (Memᴰ.tail m, λ f. u.0 y m (f ∙ sym (eqb-true _ _ e))); unlike = u.1; long = omega arith })
        (λ e. record { inside = λ y m. elim (Memᴰ.cases_cons m) [ inl f ↦ (Memᴰ.head f, λ g. eqb-false _ _ e (sym f ∙ g)) | inr k ↦ (Memᴰ.tail (d.inside y k).0, (d.inside y k).1) ]; unlike = (λ y m. u.0 y (d.inside y m).0, d.unlike); long = omega (arith, d.long) })

pub hole : (n : ℕ) (l : List ℕ) → Unlike l → ((x : ℕ) → Memᴰ x l → x < n) → length l ≤ n
hole zero [] u f = omega arith
hole zero (x ∷ l) u f = absurd (omega (arith, f x (Memᴰ.head refl)))
hole (suc n) l u f = let d = drops n l u in let h = hole n (drop n l) d.unlike (λ x m. let z = d.inside x m in omega (arith, f x z.0, z.1)) in omega (arith, d.long, h)

is_in : (x : ℕ) (l : List ℕ) → Memᴰ x l ⊎ (Memᴰ x l → ⊥)
is_in x [] = inr (λ m. Memᴰ.not-nil m)
is_in x (y ∷ l) = elim (ℕ_discrete x y) [ yes e ↦ inl (Memᴰ.head e) | no n ↦ elim (is_in x l) [ inl m ↦ inl (Memᴰ.tail m) | inr f ↦ inr (λ m. elim (Memᴰ.cases_cons m) [ inl e ↦ n e | inr k ↦ f k ]) ] ]

pub record Two (group : List ℕ) : Type 0 where
  pub x : ℕ
  pub y : ℕ
  pub gx : Memᴰ x group
  pub gy : Memᴰ y group
  pub lx : x < 3
  pub ly : y < 3
  pub ne : y ≢ x

pub two : (all : ℕ) → 3 ≤ all → (group : List ℕ) → T (distinct group) → T (inside all group) → all ≤ length group + 1 → Two group
two all three group di ins long = go (is_in 0 group) (is_in 1 group) (is_in 2 group)
  where
    missing : (p q : ℕ) → p < 3 → q < 3 → p ≢ q → (Memᴰ p group → ⊥) → (Memᴰ q group → ⊥) → ⊥
    missing p q lp lq n f g =
        let h = hole all (p ∷ q ∷ group) (λ y m. elim (Memᴰ.cases_cons m) [ inl e ↦ λ z. n (sym z ∙ e) | inr k ↦ λ z. f (subst (λ (v : ℕ). Memᴰ v group) z k) ], (λ y m z. g (subst (λ (v : ℕ). Memᴰ v group) z m), distinct_apart group di))
        (λ x m. elim (Memᴰ.cases_cons m) [ inl e ↦ omega (arith, e, lp, three) | inr k ↦ elim (Memᴰ.cases_cons k) [ inl e ↦ omega (arith, e, lq, three) | inr j ↦ inside_low all group ins x j ] ]) in
        omega (arith, h, long)

    go : Memᴰ 0 group ⊎ (Memᴰ 0 group → ⊥) → Memᴰ 1 group ⊎ (Memᴰ 1 group → ⊥) → Memᴰ 2 group ⊎ (Memᴰ 2 group → ⊥) → Two group
    go (inl a) (inl b) c = record { x = 0; y = 1; gx = a; gy = b; lx = omega arith; ly = omega arith; ne = λ e. omega (arith, e) }
    go (inl a) (inr b) (inl c) = record { x = 0; y = 2; gx = a; gy = c; lx = omega arith; ly = omega arith; ne = λ e. omega (arith, e) }
    go (inl a) (inr b) (inr c) = absurd (missing 1 2 (omega arith) (omega arith) (λ e. omega (arith, e)) b c)
    go (inr a) (inl b) (inl c) = record { x = 1; y = 2; gx = b; gy = c; lx = omega arith; ly = omega arith; ne = λ e. omega (arith, e) }
    go (inr a) (inl b) (inr c) = absurd (missing 0 2 (omega arith) (omega arith) (λ e. omega (arith, e)) a c)
    go (inr a) (inr b) c = absurd (missing 0 1 (omega arith) (omega arith) (λ e. omega (arith, e)) a b)
