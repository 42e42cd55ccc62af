-- Related lists of volumes and heads: what is found, changed, added and taken out stays related. Numbers rise, so one number is one volume's.
use Rattle.std.proofs.Common.{◌≡◌, ℕ, suc, ◌+◌, ◌<◌, ◌≤◌, Bool, true, false, cond, not, eqb, ◌≢◌, List, [], ◌∷◌, ◌++◌, length, sym, refl, ap, ◌∙◌, subst, arith, eqb-true}
use borrow.Author.Tests.{eqb-false}
use Rattle.disks.specs.Disks.{Volume, find, change, keep, is_volume, volumes_used}
use Rattle.volumes.specs.declared.head.Head.{Head}
use Rattle.volumes.specs.Weights.{weighs}
use Rattle.volumes.specs.Service.{is_head, without}
use Rattle.volumes.specs.Simulation.{Sectors, SameVolume, SameVolumes, none, both, Rising}

pub same_length : {f : Sectors} {vs : List Volume} {hs : List Head} → SameVolumes f vs hs → length vs ≡ length hs
same_length none = refl
same_length (both v h p r) = ap suc (same_length r)

pub same_weight : {f : Sectors} {vs : List Volume} {hs : List Head} → SameVolumes f vs hs → volumes_used vs ≡ weighs hs
unfolding volumes_used
same_weight none = refl
same_weight (both v h p r) = omega (arith, p.count, same_weight r)

pub same_found : {f : Sectors} {vs : List Volume} {hs : List Head} (n : ℕ) → SameVolumes f vs hs → SameVolumes f (find (is_volume n) vs) (find (is_head n) hs)
unfolding find
same_found n none = none
same_found {f} n (both {vs = vs} {hs = hs} v h p r) = subst (λ (k : ℕ). SameVolumes f (cond (eqb n v.num) (v ∷ []) (find (is_volume n) vs)) (cond (eqb n k) (h ∷ []) (find (is_head n) hs))) p.number (go (eqb n v.num) (same_found n r))
  where
    go : (b : Bool) → SameVolumes f (find (is_volume n) vs) (find (is_head n) hs) → SameVolumes f (cond b (v ∷ []) (find (is_volume n) vs)) (cond b (h ∷ []) (find (is_head n) hs))
    go true ih = both v h p none
    go false ih = ih

-- volumes whose sectors are as they were
pub same_others : {f : Sectors} (g : Sectors) (low high : ℕ) {vs : List Volume} {hs : List Head} → ((w m : ℕ) → low ≤ w → f w m ≡ g w m) → Rising low high vs → SameVolumes f vs hs → SameVolumes g vs hs
same_others g low high e r none = none
same_others g low high e r (both v h p q) =
    both v h (record { number = p.number; size = p.size; token = p.token; count = p.count; sector = λ n. p.sector n ∙ e v.num n r.0 }) (same_others g (suc v.num) high (λ w m l. e w m (omega (arith, r.0))) r.1 q)

-- what a test finds, by the first element
found_first : {A : Type 0} (b : Bool) (x y : A) (ys : List A) → b ≡ true → cond b (x ∷ []) ys ≡ y ∷ [] → x ≡ y
found_first true x y ys t e = cc
found_first false x y ys t e = let z : ◌≡◌ {A = ℕ} 0 1 = cc in absurd (omega arith)

found_later : {A : Type 0} (b : Bool) (x y : A) (ys : List A) → b ≡ false → cond b (x ∷ []) ys ≡ y ∷ [] → ys ≡ y ∷ []
found_later true x y ys t e = let z : ◌≡◌ {A = ℕ} 0 1 = cc in absurd (omega arith)
found_later false x y ys t e = e

-- the volume of a number and its head are changed, and its sectors with them
pub same_changed : {f : Sectors} (g : Sectors) (n low high : ℕ) (k : Volume → Volume) (j : Head → Head) (x : Volume) (y : Head) {vs : List Volume} {hs : List Head} → ((w m : ℕ) → w ≢ n → f w m ≡ g w m) → SameVolume g (k x) (j y) → Rising low high vs → SameVolumes f vs hs → find (is_volume n) vs ≡ x ∷ [] → find (is_head n) hs ≡ y ∷ [] → SameVolumes g (change (is_volume n) k vs) (change (is_head n) j hs)
unfolding change find
same_changed g n low high k j x y e c r none fv fh = none
same_changed {f} g n low high k j x y e c r (both {vs = vs} {hs = hs} v h p q) fv fh =
    subst (λ (m : ℕ). SameVolumes g (cond (eqb n v.num) (k v ∷ vs) (v ∷ change (is_volume n) k vs)) (cond (eqb n m) (j h ∷ hs) (h ∷ change (is_head n) j hs))) p.number
    (go (eqb n v.num) refl (λ a b. same_changed g n (suc v.num) high k j x y e c r.1 q a b))
  where
    -- the head's test is the volume's
    tests : (b : Bool) → eqb n v.num ≡ b → eqb n h.number.0 ≡ b
    tests b t = ap (eqb n) (sym p.number) ∙ t

    go : (b : Bool) → eqb n v.num ≡ b → (find (is_volume n) vs ≡ x ∷ [] → find (is_head n) hs ≡ y ∷ [] → SameVolumes g (change (is_volume n) k vs) (change (is_head n) j hs)) → SameVolumes g (cond b (k v ∷ vs) (v ∷ change (is_volume n) k vs)) (cond b (j h ∷ hs) (h ∷ change (is_head n) j hs))
    go true t ih =
        let here : n ≡ v.num = eqb-true n v.num t in
        let first : v ≡ x = found_first (eqb n v.num) v x (find (is_volume n) vs) t fv in
        let second : h ≡ y = found_first (eqb n h.number.0) h y (find (is_head n) hs) (tests true t) fh in
        both (k v) (j h) (subst (λ (z : Volume). SameVolume g (k z) (j h)) (sym first) (subst (λ (z : Head). SameVolume g (k x) (j z)) (sym second) c)) (same_others g (suc v.num) high (λ w m l. e w m (omega arith)) r.1 q)
    go false t ih =
        let other : n ≢ v.num = eqb-false n v.num t in
        both v h (record { number = p.number; size = p.size; token = p.token; count = p.count; sector = λ m. p.sector m ∙ e v.num m (omega arith) })
        (ih (found_later (eqb n v.num) v x (find (is_volume n) vs) t fv) (found_later (eqb n h.number.0) h y (find (is_head n) hs) (tests false t) fh))

-- none of that number behind it
keep_all : (n low high : ℕ) (vs : List Volume) → n < low → Rising low high vs → keep (λ (y : Volume). not (is_volume n y)) vs ≡ vs
unfolding keep
keep_all n low high [] l r = refl
keep_all n low high (v ∷ vs) l r = go (eqb n v.num) (eqb-true n v.num) (keep_all n (suc v.num) high vs (omega (arith, r.0)) r.1)
  where
    go : (b : Bool) → (b ≡ true → n ≡ v.num) → keep (λ (y : Volume). not (is_volume n y)) vs ≡ vs → cond (not b) (v ∷ keep (λ (y : Volume). not (is_volume n y)) vs) (keep (λ (y : Volume). not (is_volume n y)) vs) ≡ v ∷ vs
    go true t ih = absurd (omega (arith, t refl, r.0))
    go false t ih = ap (λ (ws : List Volume). v ∷ ws) ih

-- the volume of a number and its head are taken out
pub same_dropped : {f : Sectors} (g : Sectors) (n low high : ℕ) {vs : List Volume} {hs : List Head} → ((w m : ℕ) → w ≢ n → f w m ≡ g w m) → Rising low high vs → SameVolumes f vs hs → SameVolumes g (keep (λ (y : Volume). not (is_volume n y)) vs) (without (is_head n) hs)
unfolding keep without
same_dropped g n low high e r none = none
same_dropped {f} g n low high e r (both {vs = vs} {hs = hs} v h p q) =
    subst (λ (m : ℕ). SameVolumes g (cond (not (eqb n v.num)) (v ∷ rest) rest) (cond (eqb n m) hs (h ∷ without (is_head n) hs))) p.number (go (eqb n v.num) refl (same_dropped g n (suc v.num) high e r.1 q))
  where
    rest : List Volume
    rest = keep (λ (y : Volume). not (is_volume n y)) vs

    go : (b : Bool) → eqb n v.num ≡ b → SameVolumes g rest (without (is_head n) hs) → SameVolumes g (cond (not b) (v ∷ rest) rest) (cond b hs (h ∷ without (is_head n) hs))
    go true t ih =
        let here : n ≡ v.num = eqb-true n v.num t in
        subst (λ (ws : List Volume). SameVolumes g ws hs) (sym (keep_all n (suc v.num) high vs (omega arith) r.1)) (same_others g (suc v.num) high (λ w m l. e w m (omega arith)) r.1 q)
    go false t ih =
        let other : n ≢ v.num = eqb-false n v.num t in
        both v h (record { number = p.number; size = p.size; token = p.token; count = p.count; sector = λ m. p.sector m ∙ e v.num m (omega arith) }) ih

pub same_pushed : {f : Sectors} {vs : List Volume} {hs : List Head} (v : Volume) (h : Head) → SameVolume f v h → SameVolumes f vs hs → SameVolumes f (vs ++ v ∷ []) (hs ++ h ∷ [])
same_pushed v h p none = both v h p none
same_pushed v h p (both w k q r) = both w k q (same_pushed v h p r)

-- numbers go on rising
pub rising_wider : (low low' high : ℕ) (vs : List Volume) → low' ≤ low → Rising low high vs → Rising low' high vs
rising_wider low low' high [] l r = omega arith
rising_wider low low' high (v ∷ vs) l r = (omega (arith, r.0), r.1)

pub rising_pushed : (low high : ℕ) (vs : List Volume) (v : Volume) → v.num ≡ high → Rising low high vs → Rising low (high + 1) (vs ++ v ∷ [])
rising_pushed low high [] v e r = (omega arith, omega arith)
rising_pushed low high (w ∷ vs) v e r = (r.0, rising_pushed (suc w.num) high vs v e r.1)

pub rising-changed : (n low high : ℕ) (k : Volume → Volume) (vs : List Volume) → ((v : Volume) → (k v).num ≡ v.num) → Rising low high vs → Rising low high (change (is_volume n) k vs)
unfolding change
rising-changed n low high k [] e r = r
rising-changed n low high k (v ∷ vs) e r = go (eqb n v.num) (rising-changed n (suc v.num) high k vs e r.1)
  where
    go : (b : Bool) → Rising (suc v.num) high (change (is_volume n) k vs) → Rising low high (cond b (k v ∷ vs) (v ∷ change (is_volume n) k vs))
    go true ih = (omega (arith, e v, r.0), subst (λ (m : ℕ). Rising (suc m) high vs) (sym (e v)) r.1)
    go false ih = (r.0, ih)

pub rising_kept : (n low high : ℕ) (vs : List Volume) → Rising low high vs → Rising low high (keep (λ (y : Volume). not (is_volume n y)) vs)
unfolding keep
rising_kept n low high [] r = r
rising_kept n low high (v ∷ vs) r = go (eqb n v.num) (rising_kept n (suc v.num) high vs r.1)
  where
    rest : List Volume
    rest = keep (λ (y : Volume). not (is_volume n y)) vs

    go : (b : Bool) → Rising (suc v.num) high rest → Rising low high (cond (not b) (v ∷ rest) rest)
    go true ih = rising_wider (suc v.num) low high rest (omega (arith, r.0)) ih
    go false ih = (r.0, ih)

-- at most one is found, and it has the number
pub found_one : {A : Type 0} (f : A → Bool) (xs : List A) (x : A) (ys : List A) → find f xs ≡ x ∷ ys → (ys ≡ []) × (f x ≡ true)
unfolding find
found_one f [] x ys e = let z : ◌≡◌ {A = ℕ} 0 1 = cc in absurd (omega arith)
found_one f (w ∷ xs) x ys e = go (f w) refl (λ g. found_one f xs x ys g) e
  where
    go : (b : Bool) → f w ≡ b → (find f xs ≡ x ∷ ys → (ys ≡ []) × (f x ≡ true)) → cond b (w ∷ []) (find f xs) ≡ x ∷ ys → (ys ≡ []) × (f x ≡ true)
    go true t ih g = let same : w ≡ x = cc in ((cc), ap f (sym same) ∙ t)
    go false t ih g = ih g

rising_bound : (low high : ℕ) (vs : List Volume) → Rising low high vs → low ≤ high
rising_bound low high [] r = r
rising_bound low high (v ∷ vs) r = omega (arith, r.0, rising_bound (suc v.num) high vs r.1)

pub rising-below : (n low high : ℕ) (vs : List Volume) (x : Volume) → Rising low high vs → find (is_volume n) vs ≡ x ∷ [] → n < high
unfolding find
rising-below n low high [] x r e = let z : ◌≡◌ {A = ℕ} 0 1 = cc in absurd (omega arith)
rising-below n low high (v ∷ vs) x r e = go (eqb n v.num) refl (λ f. rising-below n (suc v.num) high vs x r.1 f)
  where
    go : (b : Bool) → eqb n v.num ≡ b → (find (is_volume n) vs ≡ x ∷ [] → n < high) → n < high
    go true t ih = omega (arith, eqb-true n v.num t, rising_bound (suc v.num) high vs r.1)
    go false t ih = ih (found_later (eqb n v.num) v x (find (is_volume n) vs) t e)
