use Rattle.std.proofs.Common.{vec_items, ◌∙◌, length-set}
use Rattle.pieces.proofs.Hints.{none_free_set}
use Rattle.pieces.proofs.Agreeing.{changed_invariants}
use Rattle.pieces.proofs.state.Pieces.change.Goals as goal

pub invariant_of-self : goal.invariant_of-self
invariant_of-self c =
    let s = c.args.self.now in
    let r = changed_invariants (vec_items s.table.pieces) (vec_items s.entries) c.args.index c.args.slot c.args.place c.args.stamp.0 c.index_mut-entry.result.now c.change.new.entry c.requires.index c.index_mut-entry.ensures.value c.change.ensures s.single s.agrees in
    record { agrees = r.0; single = r.1; sized = length-set (vec_items s.entries) c.args.index _ ∙ s.sized; none_free = none_free_set _ c.args.index _ (vec_items s.entries) _ c.lowered-self.ensures s.none_free; all_taken = s.all_taken }
