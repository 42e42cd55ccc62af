use Rattle.std.proofs.Common.{vec_items, ◌∙◌, length-set}
use Rattle.pieces.proofs.Hints.{none_free_lowered}
use Rattle.pieces.proofs.Agreeing.{freed_invariants}
use Rattle.pieces.proofs.state.Pieces.free_entry.Goals as goal

pub invariant_of-self : goal.invariant_of-self
invariant_of-self c =
    let s = c.args.self.now in
    let r = freed_invariants (vec_items s.table.pieces) (vec_items c.clear.new.self.pieces) (vec_items s.entries) c.args.index c.free.result c.index-old.result.now c.requires.index s.single s.agrees c.index-old.ensures c.clear.ensures c.free.ensures in
    record { agrees = r.0; single = r.1; sized = length-set (vec_items s.entries) c.args.index _ ∙ s.sized; none_free = none_free_lowered _ c.args.index _ (vec_items s.entries) _ c.min-self.ensures s.none_free; all_taken = s.all_taken }
