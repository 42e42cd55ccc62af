-- Blocks that are given.
use Rattle.std.proofs.Common.{◌≡◌, ℕ, ◌≤◌, Bool, true, false, T, List, [], ◌∷◌, ◌++◌, length, map, min, refl, sym, ◌∙◌, arith}
use Rattle.std.proofs.lemmas.List.{length-map}
use Rattle.std.proofs.lemmas.Bool.Decides.{nat_tests}
use Rattle.pieces.specs.declared.entry.Entry.{Entry}
use Rattle.pieces.specs.declared.changed.Key.{Key}
use Rattle.served.specs.Blocks.{volume_of, block_of}
use Rattle.keeping.specs.Keeping.{key_at}
use Rattle.store.specs.Parts.{is_key, place_in, places_in, places_with, places_of}

pub eight_mapped : {A B : Type 0} (f : A → B) (xs : List A) → length xs ≡ 8 → length (map f xs) ≡ 8
eight_mapped f xs e = length-map xs f ∙ e

pub key_fits : (k : ℕ) (at : Key) → at.block.0 ≡ block_of k → at.volume.0 ≡ min (volume_of k) 18446744073709551615 → T (is_key k) → at ≡ key_at k
key_fits k at b v t =
    let e : at.volume.0 ≡ volume_of k = v ∙ grind (arith, nat_tests, t) in
    rw (← b, ← e) refl

pub places_in_cons : (p : ℕ) (ps : List ℕ) → places_in (p ∷ ps) ≡ place_in p ++ places_in ps
unfolding places_in
places_in_cons p ps = refl

pub places_of_cons : (e : Entry) (es : List Entry) → places_of (e ∷ es) ≡ places_with e ++ places_of es
unfolding places_of
places_of_cons e es = refl

pub places_in_none : places_in [] ≡ []
unfolding places_in
places_in_none = refl

pub places_of_none : places_of [] ≡ []
unfolding places_of
places_of_none = refl
