use Rattle.std.proofs.lemmas.List.Elements.{same_from_all_zip}
use Rattle.disks.specs.Device.{zeros}
use Rattle.cut_trial.proofs.model.Model.new.Goals as goal

pub returns : goal.returns
unfolding zeros
returns c = c.in_ok-sectors.ensures.items_if_clones_equal (λ y h. same_from_all_zip _ _ y h.whole (λ a b e. e))
