use Rattle.std.proofs.Common.{◌≡◌, ◌∙◌, ap, length, replicate, vec_items, rules, arith, List}
use Rattle.std.proofs.lemmas.List.{length-replicate}
use Rattle.pieces.specs.declared.entry.Entry.{Entry}
use Rattle.pieces.specs.Layouts.{entries_of}
use Rattle.pieces.proofs.Agreeing.{new_invariants}
use Rattle.pieces.proofs.state.Pieces.new.Goals as goal

pub invariant_of-result : goal.invariant_of-result
invariant_of-result c =
    let all : vec_items c.in_ok-entries.entries ≡ replicate (entries_of c.args.layout.size) c.free.result = search rules in
    let r = new_invariants (vec_items c.new.result.pieces) (vec_items c.in_ok-entries.entries) (entries_of c.args.layout.size) c.free.result c.new.ensures all c.free.ensures in
    record { agrees = r.0; single = r.1; sized = ap (λ (es : List Entry). length es) all ∙ length-replicate (entries_of c.args.layout.size) c.free.result; none_free = λ i l. absurd (omega (arith, l)); all_taken = λ p l. absurd (omega (arith, l)) }
