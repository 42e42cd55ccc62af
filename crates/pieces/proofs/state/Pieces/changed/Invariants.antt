use Rattle.std.proofs.Common.{◌-◌, vec_items}
use Rattle.pieces.specs.Changes.{listed}
use Rattle.pieces.proofs.Listing.{Along}
use Rattle.pieces.proofs.state.Pieces.changed.Given as goal

abbrev pub invariant-loop-i : goal.invariant-loop-i
invariant-loop-i l = Along (listed l.most l.since l.initial.at (vec_items l.self.entries)) (vec_items l.blocks) (l.most - l.i) l.since l.at (vec_items l.self.entries)
