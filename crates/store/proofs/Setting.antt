-- A sector is set: with what its place holds then, or not since there is no room.
use Rattle.std.proofs.Common.{◌≡◌, ℕ, List, Some, None, Err, refl, sym, ap, ◌∙◌, arith}
use Rattle.disks.specs.Disks.{all_zero}
use Rattle.pieces.specs.declared.set.Writes.{Writes}
use Rattle.pieces.specs.declared.set.Unset.{Unset}
use Rattle.pieces.specs.declared.set.Unset.TheVariants as unset
use Rattle.pieces.specs.Kept.{Kept, WasSet, was_set, sets, DoesSet}
use Rattle.pieces.specs.Meaning.{stored_at}
use Rattle.pieces.specs.Replaces.{set_of, sets_held}
use Rattle.store.specs.declared.store.Unserved.{Unserved}
use Rattle.store.specs.declared.store.Unserved.TheVariants as unserved
use Rattle.store.specs.Stores.{no_place}

pub set_some : (v n w : ℕ) (bs : List ℕ) (k m : Kept) (d e : ℕ → List ℕ) (r : Writes) → sets v n (all_zero bs) w k ≡ Some (was_set r m) → e ≡ stored_at r.place bs d → sets_held v n bs w (record { kept = k; data' = d }) ≡ Some (record { kept = m; data' = e })
unfolding sets_held
set_some v n w bs k m d e r s q = ap (set_of bs d) s ∙ ap (λ (x : ℕ → List ℕ). Some (record { kept = m; data' = x })) (sym q)

pub set_none : (v n w : ℕ) (bs : List ℕ) (k m : Kept) (d : ℕ → List ℕ) (u : Unset) (x : Unserved) → DoesSet v n (all_zero bs) w k (Err u) m → x ≡ no_place u → x ≡ unserved.NoRoom → sets_held v n bs w (record { kept = k; data' = d }) ≡ None
unfolding sets_held
set_none v n w bs k m d unset.NoRoom x s e f = ap (set_of bs d) s.0
set_none v n w bs k m d unset.NoMemory x s e f = let z : ◌≡◌ {A = ℕ} 0 1 = cc in absurd (omega arith)

pub memory_is_not_room : {A : Type 0} (x : Unserved) → x ≡ unserved.NoMemory → x ≡ unserved.NoRoom → A
memory_is_not_room x e f = let z : ◌≡◌ {A = ℕ} 0 1 = cc in absurd (omega arith)
