use Rattle.std.proofs.Common.{rules}
use Rattle.pieces.proofs.Setting.{blank_set}
use Rattle.pieces.proofs.state.Pieces.set_blank.Goals as goal

pub returns-in-Ok-Some-clause-kept : goal.returns-in-Ok-Some-clause-kept
returns-in-Ok-Some-clause-kept c =
    blank_set c.args.at.volume.0 c.args.at.sector.0 c.block_of.result.0 c.slot_of.result c.args.stamp.0 c.in-Ok-Some.index _ _ _ c.ne.result (rw c.in-Ok-Some.field-0-is at c.in-Ok-Some.ensures.kept).0 c.block_of.ensures c.slot_of.ensures c.free_place.ensures.kept (search rules)
