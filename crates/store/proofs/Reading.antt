-- What a sector holds, by the place that is found for it.
use Rattle.std.proofs.Common.{◌≡◌, ℕ, zero, suc, Bool, false, cond, eqb, List, Some, None, refl, ap, arith}
use Rattle.std.proofs.lemmas.Bool.Decides.{nat_tests}
use Rattle.disks.specs.Device.{zeros}
use Rattle.pieces.specs.Kept.{found}
use Rattle.pieces.specs.Meaning.{content}

found_suc : (p : ℕ) → found (suc p) ≡ Some (suc p)
found_suc p = ap (λ (b : Bool). cond b None (Some (suc p))) (let z : eqb (suc p) 0 ≡ false = grind (arith, nat_tests) in z)

pub content_none : (d : ℕ → List ℕ) (p : ℕ) → found p ≡ None → content d p ≡ zeros 512
content_none d zero e = refl
content_none d (suc p) e =
    let c = found_suc p in
    let z : ◌≡◌ {A = ℕ} 0 1 = cc in absurd (omega arith)

pub content_some : (d : ℕ → List ℕ) (p q : ℕ) → found p ≡ Some q → content d p ≡ d q
content_some d zero q e = let z : ◌≡◌ {A = ℕ} 0 1 = cc in absurd (omega arith)
content_some d (suc p) q e =
    let c = found_suc p in
    let s : suc p ≡ q = cc in ap d s
