-- What heads weigh when one is added, changed or taken out.
use Rattle.std.proofs.Common.{◌≡◌, ℕ, zero, suc, ◌+◌, ◌-◌, ◌<◌, ◌≤◌, Bool, true, false, cond, not, ◌&&◌, eqb, ltb, List, [], ◌∷◌, ◌++◌, length, get_or, set, ap, subst, arith}
use Rattle.std.specs.List.{remove}
use Rattle.volumes.specs.declared.head.Head.{Head}
use Rattle.std.proofs.lemmas.Bool.Decides.{nat_tests}
use Rattle.disks.specs.Disks.{one, find, change}
use Rattle.volumes.specs.Service.{recount, First, is_head, without}
use Rattle.volumes.specs.Weights.{weighs}

pub weighs_push : (hs : List Head) (h : Head) → weighs (hs ++ h ∷ []) ≡ weighs hs + (64 + h.used)
weighs_push [] h = omega arith
weighs_push (x ∷ hs) h = omega (arith, weighs_push hs h)

pub weighs_at : (hs : List Head) (i : ℕ) (h : Head) → i < length hs → get_or hs i h ≡ h → 64 + h.used ≤ weighs hs
weighs_at [] i h l e = absurd (omega arith)
weighs_at (x ∷ hs) zero h l e = omega (arith, ap (λ (y : Head). y.used) e)
weighs_at (x ∷ hs) (suc i) h l e = omega (arith, weighs_at hs i h (omega arith) e)

pub weighs-set : (hs : List Head) (i : ℕ) (h k : Head) → i < length hs → get_or hs i h ≡ h → weighs (set hs i k) + h.used ≡ weighs hs + k.used
weighs-set [] i h k l e = absurd (omega arith)
weighs-set (x ∷ hs) zero h k l e = omega (arith, ap (λ (y : Head). y.used) e)
weighs-set (x ∷ hs) (suc i) h k l e = omega (arith, weighs-set hs i h k (omega arith) e)

pub weighs_removed : (hs : List Head) (i : ℕ) (h : Head) → i < length hs → get_or hs i h ≡ h → weighs (remove hs i) + (64 + h.used) ≡ weighs hs
weighs_removed [] i h l e = absurd (omega arith)
weighs_removed (x ∷ hs) zero h l e = omega (arith, ap (λ (y : Head). y.used) e)
weighs_removed (x ∷ hs) (suc i) h l e = omega (arith, weighs_removed hs i h (omega arith) e)

-- A sector that changes keeps the weight within the room, unless it is one that overfills.
pub recount_fits : (was now : Bool) (used weight room : ℕ) → used ≤ weight → weight ≤ room → (was && not now && ltb room (weight + 1)) ≡ false → weight - used + recount was now used ≤ room
unfolding one
recount_fits true true used weight room h k e = omega arith
recount_fits true false used weight room h k e = let l : weight < room = grind (arith, nat_tests) in omega arith
recount_fits false true used weight room h k e = omega arith
recount_fits false false used weight room h k e = omega arith

-- The same facts where a head was found in a copy of the list, as weight ≡ weighs ys has it.
module _ {f : Head → Bool} {xs ys : List Head} {i : ℕ} {h : Head} (weight : ℕ) (same : xs ≡ ys) (p : First f xs i h) (counted : weight ≡ weighs ys) where
  here : (i < length ys) × (get_or ys i h ≡ h)
  here = subst (λ (zs : List Head). (i < length zs) × (get_or zs i h ≡ h)) same (p.at, p.here)

  pub found_weighs : 64 + h.used ≤ weight
  found_weighs = omega (arith, weighs_at ys i h here.0 here.1)

  pub counted_put : (k : Head) → weight - h.used + k.used ≡ weighs (set ys i k)
  counted_put k = omega (arith, weighs-set ys i h k here.0 here.1, found_weighs)

  -- nothing that weighs anything changed
  pub counted_same : (k : Head) → k.used ≡ h.used → weight ≡ weighs (set ys i k)
  counted_same k e = omega (arith, counted_put k, found_weighs, e)

  pub counted_removed : weight - (64 + h.used) ≡ weighs (remove ys i)
  counted_removed = omega (arith, weighs_removed ys i h here.0 here.1)

nothing_found : (h : Head) → ◌≡◌ {A = List Head} [] (h ∷ []) → ⊥
nothing_found h e = let z : ◌≡◌ {A = ℕ} 0 1 = cc in omega arith

-- The same by what is found under a number.
pub weighs-changed : (n : ℕ) (j : Head → Head) (hs : List Head) (h : Head) → find (is_head n) hs ≡ h ∷ [] → weighs (change (is_head n) j hs) + h.used ≡ weighs hs + (j h).used
unfolding find change
weighs-changed n j [] h e = absurd (nothing_found h e)
weighs-changed n j (x ∷ hs) h e = go (eqb n x.number.0) (λ f. weighs-changed n j hs h f) e
  where
    go : (b : Bool) → (find (is_head n) hs ≡ h ∷ [] → weighs (change (is_head n) j hs) + h.used ≡ weighs hs + (j h).used) → cond b (x ∷ []) (find (is_head n) hs) ≡ h ∷ [] → weighs (cond b (j x ∷ hs) (x ∷ change (is_head n) j hs)) + h.used ≡ weighs (x ∷ hs) + (j h).used
    go true ih f = let same : x ≡ h = cc in omega (arith, ap (λ (y : Head). y.used) same, ap (λ (y : Head). (j y).used) same)
    go false ih f = omega (arith, ih f)

pub weighs-without : (n : ℕ) (hs : List Head) (h : Head) → find (is_head n) hs ≡ h ∷ [] → weighs (without (is_head n) hs) + (64 + h.used) ≡ weighs hs
unfolding find without
weighs-without n [] h e = absurd (nothing_found h e)
weighs-without n (x ∷ hs) h e = go (eqb n x.number.0) (λ f. weighs-without n hs h f) e
  where
    go : (b : Bool) → (find (is_head n) hs ≡ h ∷ [] → weighs (without (is_head n) hs) + (64 + h.used) ≡ weighs hs) → cond b (x ∷ []) (find (is_head n) hs) ≡ h ∷ [] → weighs (cond b hs (x ∷ without (is_head n) hs)) + (64 + h.used) ≡ weighs (x ∷ hs)
    go true ih f = let same : x ≡ h = cc in omega (arith, ap (λ (y : Head). y.used) same)
    go false ih f = omega (arith, ih f)
