use Rattle.std.proofs.Common.{◌≡◌, length, vec_items}
use Rattle.pieces.specs.Kept.{the_kept}
use Rattle.pieces.specs.Replaces.{vacates_where}
use Rattle.pieces.proofs.state.Pieces.vacate_where.Given as goal

abbrev pub invariant-loop-index : goal.invariant-loop-index
invariant-loop-index g l = record {
  kept : the_kept l.self ≡ vacates_where (g.C.Choice.chosen l.choice) l.index (the_kept l.initial.self);
  long : length (vec_items l.self.entries) ≡ length (vec_items l.initial.self.entries);
  layout : l.self.layout ≡ l.initial.self.layout;
}
