-- A range is taken over as the keeper does it: of whole blocks only their keys are to be looked at.
use Rattle.std.proofs.Common.{◌≡◌, ℕ, suc, Bool, true, false, cond, ◌&&◌, List, [], ◌∷◌, None, Option, refl, ap, ◌∙◌, sym, arith}
use Rattle.std.specs.List.{list_all}
use Rattle.std.specs.Option.{option_map}
use Rattle.volumes.specs.Service.{Service}
use Rattle.copies.specs.Service.{Stamped, in_range}
use Rattle.pieces.specs.Replaces.{Held, replaces}
use Rattle.served.specs.Blocks.{Block}
use Rattle.keeping.specs.Keeping.{is_whole, key_at, most_emptied, filled_of, in_order, take_held}
use Rattle.store.specs.Parts.{ordered, takes_held}
use Rattle.store.specs.Serving.{TakesAsKeeper}
use Rattle.store.proofs.Hearing.{both}

same_order : (key : ℕ) (next : Option ℕ) (bs : List (Stamped Block)) → list_all (λ b. is_whole b.block) bs ≡ true → ordered key next bs ≡ in_order key next bs
unfolding ordered in_order
same_order key next [] e = refl
same_order key next (b ∷ bs) e =
    let p = both (is_whole b.block) (list_all (λ c. is_whole c.block) bs) e in
    ap (λ (t : Bool). in_range key next b.key && t) (same_order (suc b.key) next bs p.1 ∙ sym (ap (λ (t : Bool). t && in_order (suc b.key) next bs) p.0))

same_held : (r : Service) (whole : Bool) (key : ℕ) (next : Option ℕ) (floor : ℕ) (bs : List (Stamped Block)) (h : Held) → list_all (λ b. is_whole b.block) bs ≡ true → takes_held r whole key next floor bs h ≡ take_held r whole key next floor bs h
unfolding takes_held take_held
same_held r whole key next floor bs h e = ap (λ (t : Bool). cond t (replaces (key_at key) (option_map key_at next) whole most_emptied floor (filled_of r bs) h) None) (same_order key next bs e)

pub takes_as_keeper : TakesAsKeeper
takes_as_keeper = record { takes = same_held }
