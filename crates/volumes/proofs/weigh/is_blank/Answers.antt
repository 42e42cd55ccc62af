use Rattle.std.proofs.Common.{◌≡◌, List, [], ◌∷◌, ℕ, nat_eq, refl, ap, ◌&&◌, ◌∙◌, rules, tests}
use Rattle.std.specs.List.{list_all}
use Rattle.std.proofs.lemmas.Iterator.{YieldsList-from_slice}
use Rattle.std.proofs.lemmas.Iterator.Search.{all_from_yields_List}
use Rattle.disks.specs.Disks.{all_zero}
use Rattle.volumes.proofs.weigh.is_blank.Goals as goal

all_zeros : (bs : List ℕ) → list_all (λ b. nat_eq b 0) bs ≡ all_zero bs
unfolding all_zero
all_zeros [] = refl
all_zeros (b ∷ bs) = ap (λ r. nat_eq b 0 && r) (all_zeros bs)

pub returns : goal.returns
returns c = all_from_yields_List (λ b. nat_eq b 0) _ _ c.all.result c.all.ensures.ran (YieldsList-from_slice _ c.iter.ensures.rest) (λ x b q k. search (rules, tests)) ∙ all_zeros c.args.sector.now
