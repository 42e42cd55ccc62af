-- How many sectors hold something, when one of them changes or all are blank.
use Rattle.std.proofs.Common.{◌≡◌, ℕ, zero, suc, ◌+◌, ◌<◌, Bool, true, false, cond, not, eqb, ◌≢◌, List, ◌∷◌, refl, ap, ap₂, arith, eqb-true}
use borrow.Author.Tests.{eqb-false}
use Rattle.std.proofs.lemmas.Bool.Decides.{nat_tests}
use Rattle.disks.specs.Device.{Device, zeros, shown, written, latest}
use Rattle.disks.specs.Disks.{all_zero, one, used}
use Rattle.volumes.specs.Service.{recount}

pub all_zeros : (k : ℕ) → all_zero (zeros k) ≡ true
unfolding all_zero zeros
all_zeros zero = refl
all_zeros (suc k) = all_zeros k

pub used-blank : (z : ℕ) → used z (λ n. zeros 512) ≡ 0
unfolding used one
used-blank zero = refl
used-blank (suc z) = rw (all_zeros 512) (omega (arith, used-blank z))

-- sectors that hold the same
pub used_same : (z : ℕ) (f g : ℕ → List ℕ) → ((n : ℕ) → n < z → f n ≡ g n) → used z f ≡ used z g
unfolding used
used_same zero f g h = refl
used_same (suc z) f g h = ap₂ (λ (b : List ℕ) (k : ℕ). one (not (all_zero b)) + k) (h z (omega arith)) (used_same z f g (λ n l. h n (omega arith)))

-- what a written sector shows
pub shown_written : (n : ℕ) (b : List ℕ) (d : Device) (m : ℕ) → shown (written n b d) m ≡ cond (eqb m n) b (shown d m)
unfolding latest
shown_written n b d m = go (eqb m n)
  where
    go : (c : Bool) → latest (d.kept m) (cond c (b ∷ d.since n) (d.since m)) ≡ cond c b (latest (d.kept m) (d.since m))
    go true = refl
    go false = refl

pub cond_other : {A : Type 0} (m n : ℕ) (x y : A) → m ≢ n → cond (eqb m n) x y ≡ y
cond_other m n x y h = grind (arith, nat_tests)

pub used_one_changed : (z n : ℕ) (b : List ℕ) (f : ℕ → List ℕ) → n < z → used z (λ m. cond (eqb m n) b (f m)) + one (not (all_zero (f n))) ≡ used z f + one (not (all_zero b))
unfolding used
used_one_changed zero n b f h = absurd (omega arith)
used_one_changed (suc z) n b f h = go (eqb z n) refl (λ l. used_one_changed z n b f l)
  where
    g : ℕ → List ℕ
    g m = cond (eqb m n) b (f m)

    below : z ≡ n → (m : ℕ) → m < z → g m ≡ f m
    below e m l = cond_other m n b (f m) (omega arith)

    go : (c : Bool) → eqb z n ≡ c → (n < z → used z g + one (not (all_zero (f n))) ≡ used z f + one (not (all_zero b))) → one (not (all_zero (cond c b (f z)))) + used z g + one (not (all_zero (f n))) ≡ one (not (all_zero (f z))) + used z f + one (not (all_zero b))
    go true e ih =
        let same : z ≡ n = eqb-true z n e in
        omega (arith, used_same z g f (below same), ap (λ (k : ℕ). one (not (all_zero (f k)))) same)
    go false e ih =
        let other : z ≢ n = eqb-false z n e in
        omega (arith, ih (omega arith))

pub recounted : (z n : ℕ) (b : List ℕ) (f g : ℕ → List ℕ) → n < z → ((m : ℕ) → g m ≡ cond (eqb m n) b (f m)) → used z g ≡ recount (all_zero (f n)) (all_zero b) (used z f)
recounted z n b f g h e = omega (arith, used_same z g (λ m. cond (eqb m n) b (f m)) (λ m l. e m), used_one_changed z n b f h)
