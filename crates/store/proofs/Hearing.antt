-- The keys of a part that is heard are keys of blocks.
use Rattle.std.proofs.Common.{◌≡◌, ℕ, Bool, true, false, ◌&&◌, List, [], ◌∷◌, vec_items, refl, arith}
use Rattle.std.specs.List.{list_all}
use Rattle.copies.specs.declared.message.Tail.{Tail}
use Rattle.copies.specs.declared.message.Tail.TheVariants.{More, Ends}
use Rattle.copies.specs.declared.message.Stamped.{Stamped}
use Rattle.copies.specs.declared.message.Part.{Part}
use Rattle.packets.specs.declared.rest.Rest.{Rest}
use Rattle.packets.specs.declared.block.Block.{Block}
use Rattle.store.specs.Parts.{is_key, AreKeys, AreNext, tail_fits, part_fits, tail_key, HeardFit}

pub both : (a b : Bool) → a && b ≡ true → (a ≡ true) × (b ≡ true)
both true b e = (refl, e)
both false b e = let z : ◌≡◌ {A = ℕ} 0 1 = cc in absurd (omega arith)

all_keys : (bs : List (Stamped Block)) → list_all (λ b. is_key b.key.0) bs ≡ true → AreKeys bs
all_keys [] e = tt
all_keys (b ∷ bs) e =
    let p = both (is_key b.key.0) (list_all (λ c. is_key c.key.0) bs) e in
    (p.0, all_keys bs p.1)

next_key : (t : Tail Rest (List ℕ)) → tail_fits t ≡ true → AreNext (tail_key t)
next_key (More k) e = e
next_key (Ends x done) e = tt

fits : (x : Part Rest Block (List ℕ)) → part_fits x ≡ true → (tail_fits x.tail ≡ true) × (list_all (λ b. is_key b.key.0) (vec_items x.blocks) ≡ true)
fits x e = both (tail_fits x.tail) (list_all (λ b. is_key b.key.0) (vec_items x.blocks)) e

pub heard_fit : HeardFit
heard_fit = record { next = λ x e. next_key x.tail (fits x e).0; keys = λ x e. all_keys (vec_items x.blocks) (fits x e).1 }
