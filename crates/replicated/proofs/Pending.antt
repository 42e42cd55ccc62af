-- How many calls wait, as answers are told.
use Rattle.std.proofs.Common.{◌≡◌, ℕ, suc, ◌+◌, ◌≤◌, Bool, true, false, cond, not, ◌&&◌, ◌||◌, T, eqb, ◌≢◌, List, [], ◌∷◌, ◌++◌, sym, refl, ap, ◌∙◌, inl, inr, arith, eqb-true}
use mathlib.Core.List.Memᴰ
use mathlib.Core.List.{Memᴰ}
use borrow.Author.Tests.{eqb-false}
use Rattle.agreement.proofs.Base.{by_test, by_both}
use Rattle.disks.specs.Cluster.{Out, To, Tell, Seen, Asking, tells, is_used, without, settled, away_from, count_at}
use Rattle.replicated.proofs.Lists.{Apart}

abbrev pub ids : List Asking → Type 0
ids ps = Apart (λ (a : Asking). a.id) ps

without_in : (i k : ℕ) (ps : List Asking) (a : Asking) → Memᴰ a (without i k ps) → Memᴰ a ps
unfolding without
without_in i k [] a m = m
without_in i k (b ∷ ps) a m = go (without_in i k ps a) m
  where
    go : (Memᴰ a (without i k ps) → Memᴰ a ps) → Memᴰ a (cond (eqb i b.house && eqb k b.id) (without i k ps) (b ∷ without i k ps)) → Memᴰ a (b ∷ ps)
    go f =
        by_test (λ z. Memᴰ a z → Memᴰ a (b ∷ ps)) (eqb i b.house && eqb k b.id) (λ _ n. Memᴰ.tail (f n))
        (λ _ n. elim (Memᴰ.cases_cons n) [ inl e ↦ Memᴰ.head e | inr l ↦ Memᴰ.tail (f l) ])

without_ids : (i k : ℕ) (ps : List Asking) → ids ps → ids (without i k ps)
unfolding without
without_ids i k [] a = tt
without_ids i k (b ∷ ps) a = by_test ids (eqb i b.house && eqb k b.id) (λ _. without_ids i k ps a.1) (λ _. (λ y m. a.0 y (without_in i k ps y m), without_ids i k ps a.1))

without_none : (i k : ℕ) (ps : List Asking) → ((a : Asking) → Memᴰ a ps → a.id ≢ k) → without i k ps ≡ ps
unfolding without
without_none i k [] n = refl
without_none i k (b ∷ ps) n =
    by_both (λ z. z ≡ b ∷ ps) (eqb i b.house) (eqb k b.id) (λ _ e. absurd (n b (Memᴰ.head refl) (sym (eqb-true _ _ e)))) (ap (λ z. b ∷ z) (without_none i k ps (λ a m. n a (Memᴰ.tail m))))

count_more : (i : ℕ) (b : Asking) (ps : List Asking) → (count_at i ps ≤ count_at i (b ∷ ps)) × (count_at i (b ∷ ps) ≤ suc (count_at i ps))
unfolding count_at
count_more i b ps = by_test (λ z. (count_at i ps ≤ z) × (z ≤ suc (count_at i ps))) (eqb i b.house) (λ _. (omega arith, omega arith)) (λ _. (omega arith, omega arith))

count_cons : (i : ℕ) (b : Asking) (ps qs : List Asking) → count_at i ps ≤ suc (count_at i qs) → count_at i (b ∷ ps) ≤ suc (count_at i (b ∷ qs))
unfolding count_at
count_cons i b ps qs l = go (eqb i b.house)
  where
    go : (t : Bool) → cond t (1 + count_at i ps) (count_at i ps) ≤ suc (cond t (1 + count_at i qs) (count_at i qs))
    go true = omega arith
    go false = omega arith

without_count : (i k : ℕ) (ps : List Asking) → ids ps → count_at i ps ≤ suc (count_at i (without i k ps))
unfolding without
without_count i k [] a = omega arith
without_count i k (b ∷ ps) a =
    by_both (λ z. count_at i (b ∷ ps) ≤ suc (count_at i z)) (eqb i b.house) (eqb k b.id)
    (λ _ e. rw (without_none i k ps (λ y m f. a.0 y m (f ∙ eqb-true _ _ e))) (count_more i b ps).1) (count_cons i b ps (without i k ps) (without_count i k ps a.1))

count_same : (j : ℕ) (b : Asking) (ps qs : List Asking) → count_at j ps ≡ count_at j qs → count_at j (b ∷ ps) ≡ count_at j (b ∷ qs)
unfolding count_at
count_same j b ps qs e = ap (λ n. cond (eqb j b.house) (1 + n) n) e

count_not : (j : ℕ) (b : Asking) (ps : List Asking) → j ≢ b.house → count_at j (b ∷ ps) ≡ count_at j ps
unfolding count_at
count_not j b ps n = by_test (λ z. z ≡ count_at j ps) (eqb j b.house) (λ e. absurd (n (eqb-true _ _ e))) (λ _. refl)

pub count_here : (i : ℕ) (b : Asking) (ps : List Asking) → i ≡ b.house → count_at i (b ∷ ps) ≡ 1 + count_at i ps
unfolding count_at
count_here i b ps e = by_test (λ z. z ≡ 1 + count_at i ps) (eqb i b.house) (λ _. refl) (λ f. absurd (eqb-false _ _ f e))

without_other : (i k j : ℕ) (ps : List Asking) → j ≢ i → count_at j (without i k ps) ≡ count_at j ps
unfolding without
without_other i k j [] n = refl
without_other i k j (b ∷ ps) n =
    by_both (λ z. count_at j z ≡ count_at j (b ∷ ps)) (eqb i b.house) (eqb k b.id) (λ e _. without_other i k j ps n ∙ sym (count_not j b ps (λ f. n (f ∙ sym (eqb-true _ _ e))))) (count_same j b _ _ (without_other i k j ps n))

pub count_zero : (i : ℕ) (ps : List Asking) → 0 ≤ count_at i ps
count_zero i ps = omega arith

pub away_in : (i : ℕ) (ps : List Asking) (a : Asking) → Memᴰ a (away_from i ps) → Memᴰ a ps
unfolding away_from
away_in i [] a m = m
away_in i (b ∷ ps) a m = go (away_in i ps a) m
  where
    go : (Memᴰ a (away_from i ps) → Memᴰ a ps) → Memᴰ a (cond (eqb i b.house) (away_from i ps) (b ∷ away_from i ps)) → Memᴰ a (b ∷ ps)
    go f =
        by_test (λ z. Memᴰ a z → Memᴰ a (b ∷ ps)) (eqb i b.house) (λ _ n. Memᴰ.tail (f n))
        (λ _ n. elim (Memᴰ.cases_cons n) [ inl e ↦ Memᴰ.head e | inr l ↦ Memᴰ.tail (f l) ])

pub away_ids : (i : ℕ) (ps : List Asking) → ids ps → ids (away_from i ps)
unfolding away_from
away_ids i [] a = tt
away_ids i (b ∷ ps) a = by_test ids (eqb i b.house) (λ _. away_ids i ps a.1) (λ _. (λ y m. a.0 y (away_in i ps y m), away_ids i ps a.1))

pub away_other : (i j : ℕ) (ps : List Asking) → j ≢ i → count_at j (away_from i ps) ≡ count_at j ps
unfolding away_from
away_other i j [] n = refl
away_other i j (b ∷ ps) n = by_test (λ z. count_at j z ≡ count_at j (b ∷ ps)) (eqb i b.house) (λ e. away_other i j ps n ∙ sym (count_not j b ps (λ f. n (f ∙ sym (eqb-true _ _ e))))) (λ _. count_same j b _ _ (away_other i j ps n))

module _ {M R : Type 0} where
  abbrev pub tell_count : List (Out M R) → ℕ
  tell_count [] = 0
  tell_count (To j m ∷ os) = tell_count os
  tell_count (Tell k r ∷ os) = suc (tell_count os)

  pub settled_in : (i : ℕ) (os : List (Out M R)) (ps : List Asking) (a : Asking) → Memᴰ a (settled i os ps) → Memᴰ a ps
  unfolding settled
  settled_in i [] ps a m = m
  settled_in i (To j n ∷ os) ps a m = settled_in i os ps a m
  settled_in i (Tell k r ∷ os) ps a m = without_in i k ps a (settled_in i os (without i k ps) a m)

  pub settled_ids : (i : ℕ) (os : List (Out M R)) (ps : List Asking) → ids ps → ids (settled i os ps)
  unfolding settled
  settled_ids i [] ps a = a
  settled_ids i (To j n ∷ os) ps a = settled_ids i os ps a
  settled_ids i (Tell k r ∷ os) ps a = settled_ids i os (without i k ps) (without_ids i k ps a)

  pub settled_other : (i j : ℕ) (os : List (Out M R)) (ps : List Asking) → j ≢ i → count_at j (settled i os ps) ≡ count_at j ps
  unfolding settled
  settled_other i j [] ps n = refl
  settled_other i j (To l m ∷ os) ps n = settled_other i j os ps n
  settled_other i j (Tell k r ∷ os) ps n = settled_other i j os (without i k ps) n ∙ without_other i k j ps n

  pub settled_count : (i : ℕ) (os : List (Out M R)) (ps : List Asking) → ids ps → count_at i ps ≤ count_at i (settled i os ps) + tell_count os
  unfolding settled
  settled_count i [] ps a = omega arith
  settled_count i (To j m ∷ os) ps a = settled_count i os ps a
  settled_count i (Tell k r ∷ os) ps a = let p = without_count i k ps a in let q = settled_count i os (without i k ps) (without_ids i k ps a) in omega arith

  pub used_tells : {O : Type 0} (i k : ℕ) (os : List (Out M R)) (es : List (Seen O R)) → is_used k es ≡ true → is_used k (tells i os ++ es) ≡ true
  unfolding is_used tells
  used_tells i k [] es e = e
  used_tells i k (To j m ∷ os) es e = used_tells i k os es e
  used_tells i k (Tell n r ∷ os) es e = used_tells i k os es e

pub or_right : (a b : Bool) → b ≡ true → (a || b) ≡ true
or_right true b e = refl
or_right false b e = e

pub or_left : (a b : Bool) → a ≡ true → (a || b) ≡ true
or_left true b e = refl
or_left false b e = absurd (let z : ◌≡◌ {A = ℕ} 0 1 = cc in omega arith)

pub not_both : (b : Bool) → T (not b) → b ≡ true → ⊥
not_both true h e = h
not_both false h e = let z : ◌≡◌ {A = ℕ} 0 1 = cc in omega arith
