use Rattle.std.proofs.Common.{vec_items, ◌∙◌, length-set}
use Rattle.pieces.proofs.Hints.{none_free_set}
use Rattle.pieces.proofs.Agreeing.{placed_invariants}
use Rattle.pieces.proofs.state.Pieces.place_entry.Goals as goal

pub invariant_of-self-2 : goal.invariant_of-self-2
invariant_of-self-2 c =
    let s = c.args.self.now in
    let r = placed_invariants (vec_items s.table.pieces) (vec_items c.put.new.self.pieces) (vec_items c.clear.new.self.pieces) (vec_items s.entries) c.args.index c.args.entry c.index-old.result.now c.requires.index s.single c.requires.fresh s.agrees (c.in_ok-put.ensures {u = tt}).put c.index-old.ensures c.clear.ensures in
    record { agrees = r.0; single = r.1; sized = length-set (vec_items s.entries) c.args.index _ ∙ s.sized; none_free = none_free_set _ c.args.index _ (vec_items s.entries) _ c.lowered-self.ensures s.none_free; all_taken = s.all_taken }
