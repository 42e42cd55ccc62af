use Rattle.std.proofs.Common.{refl, ◌∙◌, ap, length}
use Rattle.pieces.proofs.Steps.{cleared_none, cleared_more, long_frees}
use Rattle.pieces.specs.Kept.{Kept}
use Rattle.pieces.proofs.state.Pieces.vacate.Goals as goal

pub loop-slot-init : goal.loop-slot-init
loop-slot-init c = record { kept = cleared_none c.args.index _; long = refl; layout = refl }

pub loop-slot-preserved : goal.loop-slot-preserved
loop-slot-preserved c =
    let v = c.loop-slot.invariant in
    record {
      kept = cleared_more c.args.index c.loop-slot.slot _ _ _ v.kept c.free_place.ensures.kept;
      long = ap (λ (x : Kept). length x.entries) c.free_place.ensures.kept ∙ long_frees c.args.index c.loop-slot.slot 0 _ ∙ v.long;
      layout = c.free_place.ensures.layout ∙ v.layout;
    }
