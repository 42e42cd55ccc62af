use Rattle.std.proofs.Common.{◌≡◌, take, None}
use Rattle.std.specs.List.{fold}
use Rattle.pieces.specs.Changes.{nearest_of}
use Rattle.pieces.proofs.state.Pieces.nearest.Given as goal

abbrev pub invariant-loop-entry : goal.invariant-loop-entry
invariant-loop-entry l = l.best ≡ fold (nearest_of l.since l.from) None (take l.entry-index l.entry-items)
