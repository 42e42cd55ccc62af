-- What claiming and setting come to, put together from their steps.
use Rattle.std.proofs.Common.{◌≡◌, ℕ, ◌/◌, ◌%◌, ◌<◌, Bool, true, false, length, Some, None, refl, sym, ap, ◌∙◌, subst, length-set}
use Rattle.pieces.specs.Kept.{Kept, index_of, vacant, claims_entry, claims, claimed, place_for, frees_place, puts_place, is_risen, sets, was_set}
use Rattle.pieces.proofs.Places.{vacant_in}

pub claims_new_one : (v b w j : ℕ) (k m : Kept) → index_of v b k.entries ≡ None → vacant k.entries ≡ Some j → m ≡ claims_entry v b w j k → (claims v b w k ≡ Some (claimed j m)) × (j < length m.entries)
unfolding claims claims_entry
claims_new_one v b w j k m none at e =
    let long : length m.entries ≡ length k.entries = ap (λ (x : Kept). length x.entries) e ∙ length-set k.entries j _ in
    (rw (none, at, e) refl, subst (λ (n : ℕ). j < n) (sym long) (vacant_in k.entries j at))

pub blank_set : (v n b s w i : ℕ) (k m t : Kept) (r : Bool) → claims v b w k ≡ Some (claimed i m) → b ≡ n / 8 → s ≡ n % 8 → t ≡ frees_place i s w m → r ≡ is_risen k t → sets v n true w k ≡ Some (was_set (record { place = None; entry = Some i; floor = r }) t)
unfolding sets frees_place
blank_set v n b s w i k m t r e eb es et er = rw (er, et, es, ← eb, e) refl

pub bytes_set : (v n b s w p i : ℕ) (k m t : Kept) (r : Bool) → place_for v n k ≡ Some p → claims v b w k ≡ Some (claimed i m) → b ≡ n / 8 → s ≡ n % 8 → t ≡ puts_place i s p w m → r ≡ is_risen k t → sets v n false w k ≡ Some (was_set (record { place = Some p; entry = Some i; floor = r }) t)
unfolding sets puts_place
bytes_set v n b s w p i k m t r ep e eb es et er = rw (er, et, es, ep, ← eb, e) refl
