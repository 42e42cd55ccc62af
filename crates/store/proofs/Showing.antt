-- What is shown where a sector was written, or a volume forgotten.
use Rattle.std.proofs.Common.{◌≡◌, ◌≢◌, ℕ, zero, suc, ◌<◌, Bool, true, false, cond, ◌&&◌, List, length, eqb, Some, None, Option, bytes_eq, refl, sym, ap, ◌∙◌, subst, arith, eqb-true, eqb→eq}
use Rattle.std.proofs.lemmas.Bool.{eq-eqb}
use Rattle.std.proofs.lemmas.Slice.Eq.{bytes_eq-Decides}
use Rattle.std.proofs.lemmas.Bool.Decides.{nat_tests}
use Rattle.disks.specs.Device.{zeros}
use Rattle.volumes.specs.Service.{Changed, keeps, puts, forgets}
use Rattle.volumes.specs.Simulation.{changed_by}
use Rattle.pieces.specs.Replaces.{Held, sets_held}
use Rattle.pieces.specs.Kept.{forgotten}
use Rattle.pieces.specs.Meaning.{Forgets}
use Rattle.pieces.proofs.Forgetting.{forget_means}
use Rattle.keeping.specs.Keeping.{Good}
use Rattle.keeping.proofs.Sets.{SetsHeld, sets_means}
use Rattle.store.specs.Stores.{sector_of, puts_held, forgets_held, changes_held}
use Rattle.store.specs.Serving.{IsOfVolume, ChangesShow}

-- one sector is bs, and all others as they were
one_changed : (f g : ℕ → ℕ → List ℕ) (v n : ℕ) (bs : List ℕ) → g (suc v) n ≡ bs → ((u a : ℕ) → ((u ≡ v) × (a ≡ n) → ⊥) → g (suc u) a ≡ f (suc u) a) → (u a : ℕ) → g (suc u) a ≡ cond (eqb (suc u) (suc v) && eqb a n) bs (f (suc u) a)
one_changed f g v n bs e o u a = go (eqb (suc u) (suc v)) refl (eqb a n) refl
  where
    go : (s : Bool) → eqb (suc u) (suc v) ≡ s → (t : Bool) → eqb a n ≡ t → g (suc u) a ≡ cond (s && t) bs (f (suc u) a)
    go true p true q =
        let r : u ≡ v = omega (arith, eqb-true (suc u) (suc v) p) in
        ap (λ (w : ℕ). g (suc w) a) r ∙ ap (g (suc v)) (eqb-true a n q) ∙ e
    go true p false q = o u a (λ x. let y = eq-eqb a n x.1 in let z : ◌≡◌ {A = ℕ} 0 1 = cc in absurd (omega arith))
    go false p t q = o u a (λ x. let y = eq-eqb (suc u) (suc v) (ap suc x.0) in let z : ◌≡◌ {A = ℕ} 0 1 = cc in absurd (omega arith))

shows_put : (size w v n : ℕ) (bs : List ℕ) (h m : Held) → Good size h → n < 1099511627776 → length bs ≡ 512 → changes_held (puts (suc v) n bs) w h ≡ Some m → (u a : ℕ) → sector_of m (suc u) a ≡ changed_by (puts (suc v) n bs) (sector_of h) (suc u) a
unfolding puts_held
shows_put size w v n bs h m g few long e = go (bytes_eq bs (sector_of h (suc v) n)) refl e
  where
    go : (t : Bool) → bytes_eq bs (sector_of h (suc v) n) ≡ t → cond t (Some h) (sets_held (suc v) n bs w h) ≡ Some m → (u a : ℕ) → sector_of m (suc u) a ≡ cond (eqb (suc u) (suc v) && eqb a n) bs (sector_of h (suc u) a)
    go true p q =
        let s : h ≡ m = cc in
        one_changed (sector_of h) (sector_of m) v n bs (ap (λ (x : Held). sector_of x (suc v) n) (sym s) ∙ sym ((bytes_eq-Decides bs (sector_of h (suc v) n)).0 p)) (λ u a x. ap (λ (y : Held). sector_of y (suc u) a) (sym s))
    go false p q =
        let s = sets_means size v n w bs h g (omega (arith, few)) long m q in
        one_changed (sector_of h) (sector_of m) v n bs s.found s.others

shows_forgotten : (size v : ℕ) (h m : Held) → Good size h → changes_held (forgets (suc v)) 0 h ≡ Some m → (u a : ℕ) → sector_of m (suc u) a ≡ cond (eqb (suc u) (suc v)) (zeros 512) (sector_of h (suc u) a)
shows_forgotten size v h m g e u a = ap (λ (x : Held). sector_of x (suc u) a) (sym s) ∙ go (eqb (suc u) (suc v)) refl
  where
    s : forgets_held (suc v) h ≡ m
    s = cc

    means : Forgets size v h.kept (forgotten (suc v) (length h.kept.entries) h.kept)
    means = forget_means size v h.kept g.sound

    go : (t : Bool) → eqb (suc u) (suc v) ≡ t → sector_of (forgets_held (suc v) h) (suc u) a ≡ cond t (zeros 512) (sector_of h (suc u) a)
    go true p =
        let r : u ≡ v = omega (arith, eqb-true (suc u) (suc v) p) in
        ap (λ (x : ℕ). sector_of (forgets_held (suc v) h) (suc x) a) r ∙ means.gone h.data' a
    go false p = means.others h.data' u a (λ x. let y = eq-eqb (suc u) (suc v) (ap suc x) in let z : ◌≡◌ {A = ℕ} 0 1 = cc in absurd (omega arith))

shows : (size w : ℕ) (c : Changed) (h m : Held) → Good size h → IsOfVolume c → changes_held c w h ≡ Some m → (u a : ℕ) → sector_of m (suc u) a ≡ changed_by c (sector_of h) (suc u) a
shows size w keeps h m g i e u a = let s : h ≡ m = cc in ap (λ (x : Held). sector_of x (suc u) a) (sym s)
shows size w (puts zero n bs) h m g i e u a = absurd (i.0 refl)
shows size w (puts (suc v) n bs) h m g i e u a = shows_put size w v n bs h m g i.1 i.2 e u a
shows size w (forgets zero) h m g i e u a = absurd (i refl)
shows size w (forgets (suc v)) h m g i e u a = shows_forgotten size v h m g e u a

pub changes_show : ChangesShow
changes_show = record { shows = shows }
