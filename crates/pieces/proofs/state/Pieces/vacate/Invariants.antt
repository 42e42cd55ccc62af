use Rattle.std.proofs.Common.{◌≡◌, length, vec_items}
use Rattle.pieces.specs.Kept.{the_kept, cleared}
use Rattle.pieces.proofs.state.Pieces.vacate.Given as goal

abbrev pub invariant-loop-slot : goal.invariant-loop-slot
invariant-loop-slot l = record {
  kept : the_kept l.self ≡ cleared l.index l.slot (the_kept l.initial.self);
  long : length (vec_items l.self.entries) ≡ length (vec_items l.initial.self.entries);
  layout : l.self.layout ≡ l.initial.self.layout;
}
