-- Sums over blocks: what keys that differ hold is at most what the blocks of all heads hold.
use Rattle.std.proofs.Common.{◌≡◌, ℕ, zero, suc, ◌+◌, ◌<◌, ◌≤◌, Bool, true, false, cond, ◌||◌, ◌≢◌, ◌⊎◌, List, [], ◌∷◌, eqb, sym, refl, ap, ◌∙◌, inl, inr, arith, eqb-true, eq-eqb}
use borrow.Author.Tests.{eqb-false}
use Rattle.std.specs.List.{sum_by, list_any, AllByRecursion, IsDistinct}
use Rattle.std.proofs.lemmas.List.Sums.{sum_by-cons}
use Rattle.agreement.proofs.Base.{by_test}
use Rattle.volumes.specs.declared.head.Head.{Head}
use Rattle.volumes.specs.Service.{is_head}
use Rattle.served.specs.Blocks.{key_of, volume_of, block_of}
use Rattle.served.proofs.Keys.{key_of-parts}

-- SUMS
abbrev pub total : ℕ → (ℕ → ℕ) → ℕ
total zero g = 0
total (suc n) g = g n + total n g

pub total_same : (n : ℕ) (g h : ℕ → ℕ) → ((b : ℕ) → b < n → g b ≡ h b) → total n g ≡ total n h
total_same zero g h e = refl
total_same (suc n) g h e = omega (arith, e n (omega arith), total_same n g h (λ b l. e b (omega arith)))

total-le : (n : ℕ) (g h : ℕ → ℕ) → ((b : ℕ) → g b ≤ h b) → total n g ≤ total n h
total-le zero g h e = omega arith
total-le (suc n) g h e = omega (arith, e n, total-le n g h e)

-- one of them becomes nothing
total_less : (n b : ℕ) (g h : ℕ → ℕ) → b < n → ((c : ℕ) → g c ≤ h c) → g b ≡ 0 → total n g + h b ≤ total n h
total_less zero b g h l e z = absurd (omega arith)
total_less (suc n) b g h l e z = go (eqb b n) refl (λ m. total_less n b g h m e z)
  where
    go : (c : Bool) → eqb b n ≡ c → (b < n → total n g + h b ≤ total n h) → g n + total n g + h b ≤ h n + total n h
    go true t ih =
        let same : b ≡ n = eqb-true b n t in
        omega (arith, z, ap g same, ap h same, total-le n g h e)
    go false t ih =
        let other : b ≢ n = eqb-false b n t in
        omega (arith, e n, ih (omega arith))

-- OVER HEADS, of each so many blocks
module _ (blocks : ℕ) where
  abbrev pub heads_total : (ℕ → ℕ) → List Head → ℕ
  heads_total g [] = 0
  heads_total g (h ∷ hs) = total blocks (λ b. g (key_of h.number.0 b)) + heads_total g hs

  heads_total-le : (g j : ℕ → ℕ) (hs : List Head) → ((k : ℕ) → g k ≤ j k) → heads_total g hs ≤ heads_total j hs
  heads_total-le g j [] e = omega arith
  heads_total-le g j (h ∷ hs) e = omega (arith, heads_total-le g j hs e, total-le blocks (λ b. g (key_of h.number.0 b)) (λ b. j (key_of h.number.0 b)) (λ b. e (key_of h.number.0 b)))

  heads_total_less : (g j : ℕ → ℕ) (hs : List Head) (k : ℕ) → block_of k < blocks → list_any (is_head (volume_of k)) hs ≡ true → ((c : ℕ) → g c ≤ j c) → g k ≡ 0 → heads_total g hs + j k ≤ heads_total j hs
  heads_total_less g j [] k l a e z = let y : ◌≡◌ {A = ℕ} 0 1 = cc in absurd (omega arith)
  heads_total_less g j (h ∷ hs) k l a e z = go (eqb (volume_of k) h.number.0) refl (λ q. heads_total_less g j hs k l q e z) a
    where
      go : (c : Bool) → eqb (volume_of k) h.number.0 ≡ c → (list_any (is_head (volume_of k)) hs ≡ true → heads_total g hs + j k ≤ heads_total j hs) → (c || list_any (is_head (volume_of k)) hs) ≡ true → heads_total g (h ∷ hs) + j k ≤ heads_total j (h ∷ hs)
      go true t ih q =
          let key : key_of h.number.0 (block_of k) ≡ k = ap (λ (v : ℕ). key_of v (block_of k)) (sym (eqb-true (volume_of k) h.number.0 t)) ∙ key_of-parts k in
          let less : total blocks (λ b. g (key_of h.number.0 b)) + j (key_of h.number.0 (block_of k)) ≤ total blocks (λ b. j (key_of h.number.0 b)) =
          total_less blocks (block_of k) (λ b. g (key_of h.number.0 b)) (λ b. j (key_of h.number.0 b)) l (λ b. e (key_of h.number.0 b)) (ap g key ∙ z) in
          omega (arith, less, ap j key, heads_total-le g j hs e)
      go false t ih q = omega (arith, ih q, total-le blocks (λ b. g (key_of h.number.0 b)) (λ b. j (key_of h.number.0 b)) (λ b. e (key_of h.number.0 b)))

  abbrev emptied : ℕ → (ℕ → ℕ) → ℕ → ℕ
  emptied k g j = cond (eqb j k) 0 (g j)

  emptied-le : (k : ℕ) (g : ℕ → ℕ) (j : ℕ) → emptied k g j ≤ g j
  emptied-le k g j = by_test (λ (n : ℕ). n ≤ g j) (eqb j k) (λ _. omega arith) (λ _. omega arith)

  emptied_others : (k : ℕ) (g : ℕ → ℕ) (ks : List ℕ) → AllByRecursion (λ y. eqb k y ≡ false) ks → sum_by (emptied k g) ks ≡ sum_by g ks
  emptied_others k g [] d = refl
  emptied_others k g (j ∷ ks) d =
      let other : k ≢ j = eqb-false k j d.0 in
      let here : emptied k g j ≡ g j = by_test (λ (n : ℕ). n ≡ g j) (eqb j k) (λ t. absurd (other (sym (eqb-true j k t)))) (λ _. refl) in
      omega (arith, here, emptied_others k g ks d.1, sum_by-cons (emptied k g) j ks, sum_by-cons g j ks)

  -- a key counts nothing, or is of a head
  abbrev pub Placed : List Head → (ℕ → ℕ) → ℕ → Type 0
  Placed hs g k = (block_of k < blocks) × ((list_any (is_head (volume_of k)) hs ≡ true) ⊎ (g k ≡ 0))

  placed_emptied : (hs : List Head) (g : ℕ → ℕ) (k : ℕ) (ks : List ℕ) → AllByRecursion (Placed hs g) ks → AllByRecursion (Placed hs (emptied k g)) ks
  placed_emptied hs g k [] p = tt
  placed_emptied hs g k (j ∷ ks) p = ((p.0.0, go p.0.1), placed_emptied hs g k ks p.1)
    where
      go : (list_any (is_head (volume_of j)) hs ≡ true) ⊎ (g j ≡ 0) → (list_any (is_head (volume_of j)) hs ≡ true) ⊎ (emptied k g j ≡ 0)
      go (inl q) = inl q
      go (inr q) = inr (omega (arith, emptied-le k g j, q))

  pub sum-within : (hs : List Head) (g : ℕ → ℕ) (ks : List ℕ) → IsDistinct eqb ks → AllByRecursion (Placed hs g) ks → sum_by g ks ≤ heads_total g hs
  unfolding IsDistinct
  sum-within hs g [] d p = omega arith
  sum-within hs g (k ∷ ks) d p = go p.0.1 (sum-within hs (emptied k g) ks d.1 (placed_emptied hs g k ks p.1))
    where
      itself : eqb k k ≡ false → ⊥
      itself t =
          let z : true ≡ false = sym (eq-eqb k k refl) ∙ t in
          cc

      go : (list_any (is_head (volume_of k)) hs ≡ true) ⊎ (g k ≡ 0) → sum_by (emptied k g) ks ≤ heads_total (emptied k g) hs → sum_by g (k ∷ ks) ≤ heads_total g hs
      go (inl q) ih =
          let less : heads_total (emptied k g) hs + g k ≤ heads_total g hs = heads_total_less (emptied k g) g hs k p.0.0 q (emptied-le k g) (by_test (λ (n : ℕ). n ≡ 0) (eqb k k) (λ _. refl) (λ t. absurd (itself t))) in
          omega (arith, ih, less, emptied_others k g ks d.0, sum_by-cons g k ks)
      go (inr q) ih = omega (arith, ih, q, emptied_others k g ks d.0, sum_by-cons g k ks, heads_total-le (emptied k g) g hs (emptied-le k g))
