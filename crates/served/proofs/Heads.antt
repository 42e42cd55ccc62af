-- Lists of heads whose numbers rise: what is added, changed or taken out; and what each of them counts.
use Rattle.std.proofs.Common.{◌≡◌, ℕ, suc, ◌+◌, ◌<◌, ◌≤◌, Bool, true, false, cond, ◌||◌, ◌≢◌, List, [], ◌∷◌, ◌++◌, length, eqb, sym, refl, ap, ap₂, ◌∙◌, subst, arith, eqb-true, eq-eqb, ne_eqb}
use borrow.Author.Tests.{eqb-false}
use Rattle.std.specs.List.{list_any}
use Rattle.agreement.proofs.Base.{by_test}
use Rattle.disks.specs.Disks.{find, change}
use Rattle.volumes.specs.declared.head.Head.{Head}
use Rattle.volumes.specs.Service.{is_head, without}
use Rattle.volumes.proofs.Counts.{used_same}
use Rattle.served.specs.Blocks.{Block, sector_in}
use Rattle.served.specs.Room.{Rising, Counts, AllCount}

-- NUMBERS
pub rising_bound : (low high : ℕ) (hs : List Head) → Rising low high hs → low ≤ high
rising_bound low high [] r = r
rising_bound low high (h ∷ hs) r = omega (arith, r.0, rising_bound (suc h.number.0) high hs r.1)

rising_wider : (low low' high : ℕ) (hs : List Head) → low' ≤ low → Rising low high hs → Rising low' high hs
rising_wider low low' high [] l r = omega arith
rising_wider low low' high (h ∷ hs) l r = (omega (arith, r.0), r.1)

pub rising_pushed : (low high : ℕ) (hs : List Head) (h : Head) → h.number.0 ≡ high → Rising low high hs → Rising low (high + 1) (hs ++ h ∷ [])
rising_pushed low high [] h e r = (omega arith, omega arith)
rising_pushed low high (k ∷ hs) h e r = (r.0, rising_pushed (suc k.number.0) high hs h e r.1)

pub rising-changed : (v low high : ℕ) (j : Head → Head) (hs : List Head) → ((h : Head) → (j h).number.0 ≡ h.number.0) → Rising low high hs → Rising low high (change (is_head v) j hs)
unfolding change
rising-changed v low high j [] e r = r
rising-changed v low high j (h ∷ hs) e r =
    by_test (Rising low high) (is_head v h) (λ _. (omega (arith, e h, r.0), subst (λ (m : ℕ). Rising (suc m) high hs) (sym (e h)) r.1)) (λ _. (r.0, rising-changed v (suc h.number.0) high j hs e r.1))

pub rising_without : (f : Head → Bool) (low high : ℕ) (hs : List Head) → Rising low high hs → Rising low high (without f hs)
unfolding without
rising_without f low high [] r = r
rising_without f low high (h ∷ hs) r = by_test (Rising low high) (f h) (λ _. rising_wider (suc h.number.0) low high hs (omega (arith, r.0)) r.1) (λ _. (r.0, rising_without f (suc h.number.0) high hs r.1))

-- none has a number below
none_below : (v low high : ℕ) (hs : List Head) → v < low → Rising low high hs → list_any (is_head v) hs ≡ false
none_below v low high [] l r = refl
none_below v low high (h ∷ hs) l r = ap₂ (λ (a b : Bool). a || b) (ne_eqb v h.number.0 (omega (arith, l, r.0))) (none_below v (suc h.number.0) high hs (omega (arith, l, r.0)) r.1)

-- and none the number that was taken out
pub none_without : (v low high : ℕ) (hs : List Head) → Rising low high hs → list_any (is_head v) (without (is_head v) hs) ≡ false
unfolding without
none_without v low high [] r = refl
none_without v low high (h ∷ hs) r =
    by_test (λ (ks : List Head). list_any (is_head v) ks ≡ false) (eqb v h.number.0)
    (λ t. none_below v (suc h.number.0) high hs (omega (arith, eqb-true v h.number.0 t)) r.1)
    (λ t. ap₂ (λ (a b : Bool). a || b) t (none_without v (suc h.number.0) high hs r.1))

-- how many there are
pub length-changed : (v : ℕ) (j : Head → Head) (hs : List Head) → length (change (is_head v) j hs) ≡ length hs
unfolding change
length-changed v j [] = refl
length-changed v j (h ∷ hs) = by_test (λ (ks : List Head). length ks ≡ suc (length hs)) (is_head v h) (λ _. refl) (λ _. ap suc (length-changed v j hs))

pub length_without : (p : Head → Bool) (hs : List Head) → length (without p hs) ≤ length hs
unfolding without
length_without p [] = omega arith
length_without p (h ∷ hs) = by_test (λ (ks : List Head). length ks ≤ suc (length hs)) (p h) (λ _. omega arith) (λ _. omega (arith, length_without p hs))

-- what is found
found_first : {A : Type 0} (b : Bool) (x y : A) (ys : List A) → b ≡ true → cond b (x ∷ []) ys ≡ y ∷ [] → x ≡ y
found_first true x y ys t e = cc
found_first false x y ys t e = let z : ◌≡◌ {A = ℕ} 0 1 = cc in absurd (omega arith)

found_later : {A : Type 0} (b : Bool) (x y : A) (ys : List A) → b ≡ false → cond b (x ∷ []) ys ≡ y ∷ [] → ys ≡ y ∷ []
found_later true x y ys t e = let z : ◌≡◌ {A = ℕ} 0 1 = cc in absurd (omega arith)
found_later false x y ys t e = e

nothing_found : (h : Head) → ◌≡◌ {A = List Head} [] (h ∷ []) → ⊥
nothing_found h e = let z : ◌≡◌ {A = ℕ} 0 1 = cc in omega arith

-- its number is the one that was asked for, and among those that rise
pub found_between : (v low high : ℕ) (hs : List Head) (h : Head) → Rising low high hs → find (is_head v) hs ≡ h ∷ [] → (v ≡ h.number.0) × (low ≤ v) × (v < high)
unfolding find
found_between v low high [] h r e = absurd (nothing_found h e)
found_between v low high (k ∷ hs) h r e = go (eqb v k.number.0) refl (λ g. found_between v (suc k.number.0) high hs h r.1 g)
  where
    go : (b : Bool) → eqb v k.number.0 ≡ b → (find (is_head v) hs ≡ h ∷ [] → (v ≡ h.number.0) × (suc k.number.0 ≤ v) × (v < high)) → (v ≡ h.number.0) × (low ≤ v) × (v < high)
    go true t f = let same : k ≡ h = found_first (eqb v k.number.0) k h (find (is_head v) hs) t e in let here : v ≡ k.number.0 = eqb-true v k.number.0 t in (here ∙ ap (λ (x : Head). x.number.0) same, omega (arith, r.0), omega (arith, rising_bound (suc k.number.0) high hs r.1))
    go false t f = let ih = f (found_later (eqb v k.number.0) k h (find (is_head v) hs) t e) in (ih.0, omega (arith, ih.1, r.0), ih.2)

-- COUNTS
-- what sectors below 2^40 hold is all that counts
pub counts_same : (f g : ℕ → Block) (h : Head) → ((n : ℕ) → n < 1099511627776 → sector_in f h.number.0 n ≡ sector_in g h.number.0 n) → Counts f h → Counts g h
counts_same f g h e c =
    record {
      size = c.size;
      token = c.token;
      count = used_same h.size.0 (sector_in g h.number.0) (sector_in f h.number.0) (λ n l. sym (e n (omega (arith, c.size)))) ∙ c.count;
      beyond = λ n l m. sym (e n m) ∙ c.beyond n l m;
    }

pub count_pushed : (f : ℕ → Block) (hs : List Head) (h : Head) → Counts f h → AllCount f hs → AllCount f (hs ++ h ∷ [])
count_pushed f [] h c cs = (c, tt)
count_pushed f (k ∷ hs) h c cs = (cs.0, count_pushed f hs h c cs.1)

pub count_without : (f : ℕ → Block) (p : Head → Bool) (hs : List Head) → AllCount f hs → AllCount f (without p hs)
unfolding without
count_without f p [] cs = cs
count_without f p (h ∷ hs) cs = by_test (AllCount f) (p h) (λ _. cs.1) (λ _. (cs.0, count_without f p hs cs.1))

pub count_found : (f : ℕ → Block) (p : Head → Bool) (hs : List Head) (h : Head) → find p hs ≡ h ∷ [] → AllCount f hs → Counts f h
unfolding find
count_found f p [] h e cs = absurd (nothing_found h e)
count_found f p (k ∷ hs) h e cs = go (p k) refl (λ g. count_found f p hs h g cs.1)
  where
    go : (b : Bool) → p k ≡ b → (find p hs ≡ h ∷ [] → Counts f h) → Counts f h
    go true t ih = subst (Counts f) (found_first (p k) k h (find p hs) t e) cs.0
    go false t ih = ih (found_later (p k) k h (find p hs) t e)

module _ (f g : ℕ → Block) where
  -- heads that are in a list
  pub count_each : (low high : ℕ) (all hs : List Head) → ((w : ℕ) → list_any (is_head w) hs ≡ true → list_any (is_head w) all ≡ true) → 1 ≤ low → Rising low high hs → ((h : Head) → list_any (is_head h.number.0) all ≡ true → 1 ≤ h.number.0 → Counts f h → Counts g h) → AllCount f hs → AllCount g hs
  count_each low high all [] i l r e cs = cs
  count_each low high all (h ∷ hs) i l r e cs =
      (e h (i h.number.0 (here (eqb h.number.0 h.number.0) (eq-eqb h.number.0 h.number.0 refl))) (omega (arith, r.0)) cs.0, count_each (suc h.number.0) high all hs (λ w q. i w (there (eqb w h.number.0) q)) (omega arith) r.1 e cs.1)
    where
      here : (b : Bool) → b ≡ true → (b || list_any (is_head h.number.0) hs) ≡ true
      here true t = refl
      here false t = let z : ◌≡◌ {A = ℕ} 0 1 = cc in absurd (omega arith)

      there : (b : Bool) {c : Bool} → c ≡ true → (b || c) ≡ true
      there true q = refl
      there false q = q

  module _ (v : ℕ) (others : (h : Head) → h.number.0 ≢ v → Counts f h → Counts g h) where
    count_later : (low high : ℕ) (hs : List Head) → v < low → Rising low high hs → AllCount f hs → AllCount g hs
    count_later low high [] l r cs = cs
    count_later low high (h ∷ hs) l r cs = (others h (omega (arith, r.0)) cs.0, count_later (suc h.number.0) high hs (omega (arith, r.0)) r.1 cs.1)

    -- one of them changed
    pub count-changed : (low high : ℕ) (j : Head → Head) (x : Head) (hs : List Head) → Rising low high hs → find (is_head v) hs ≡ x ∷ [] → (Counts f x → Counts g (j x)) → AllCount f hs → AllCount g (change (is_head v) j hs)
    unfolding find change
    count-changed low high j x [] r e c cs = absurd (nothing_found x e)
    count-changed low high j x (h ∷ hs) r e c cs =
        by_test (AllCount g) (eqb v h.number.0)
        (λ t. let same : h ≡ x = found_first (eqb v h.number.0) h x (find (is_head v) hs) t e in let here : v ≡ h.number.0 = eqb-true v h.number.0 t in (subst (λ (k : Head). Counts g (j k)) (sym same) (c (subst (Counts f) same cs.0)), count_later (suc h.number.0) high hs (omega arith) r.1 cs.1))
        (λ t. let other : v ≢ h.number.0 = eqb-false v h.number.0 t in (others h (λ q. other (sym q)) cs.0, count-changed (suc h.number.0) high j x hs r.1 (found_later (eqb v h.number.0) h x (find (is_head v) hs) t e) c cs.1))
