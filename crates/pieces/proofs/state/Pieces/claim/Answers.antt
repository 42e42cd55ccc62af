use Rattle.std.proofs.Common.{rules, ap, ◌∙◌}
use Rattle.pieces.specs.Kept.{claims_entry}
use Rattle.pieces.proofs.Setting.{claims_new_one}
use Rattle.pieces.proofs.state.Pieces.claim.Goals as goal

pub returns-clause-kept : goal.returns-clause-kept
returns-clause-kept c = claims_new_one c.args.volume.0 c.args.block.0 c.args.stamp.0 c.in-Some-vacant.index _ _ (search rules) (search rules) ((c.in_ok-take.ensures {u = tt}).kept ∙ ap (claims_entry c.args.volume.0 c.args.block.0 c.args.stamp.0 c.in-Some-vacant.index) c.vacant.ensures.kept)
