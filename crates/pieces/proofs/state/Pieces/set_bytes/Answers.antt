use Rattle.std.proofs.Common.{rules, sym, ap, ◌∙◌}
use Rattle.pieces.specs.Kept.{claims}
use Rattle.pieces.proofs.Setting.{bytes_set}
use Rattle.pieces.proofs.state.Pieces.set_bytes.Goals as goal

pub returns-in-Ok-Some-clause-kept : goal.returns-in-Ok-Some-clause-kept
returns-in-Ok-Some-clause-kept c =
    bytes_set c.args.at.volume.0 c.args.at.sector.0 c.block_of.result.0 c.slot_of.result c.args.stamp.0 c.in-Some.place c.in-Ok-Some.index _ _ _ c.ne.result (search rules) (ap (claims c.args.at.volume.0 c.block_of.result.0 c.args.stamp.0) (sym c.place_for.ensures.kept) ∙ (rw c.in-Ok-Some.field-0-is at c.in-Ok-Some.ensures.kept).0) c.block_of.ensures c.slot_of.ensures c.put_place.ensures.kept (search rules)
