use Rattle.pieces.proofs.Replacing.{set_goes}
use Rattle.pieces.proofs.state.Pieces.set_listed.Goals as goal

pub returns-clause-kept : goal.returns-clause-kept
returns-clause-kept c = set_goes c.args.at.volume.0 c.args.at.sector.0 c.args.stamp.0 c.args.sector.now _ _ c.in_ok-writes.writes _ _ c.in_ok-writes.ensures.kept c.in_ok-note.ensures.entries c.in_ok-note.ensures.sectors
