use Rattle.std.proofs.Common.{ℕ, ◌≤◌, List, length, ap, ◌∙◌, subst}
use Rattle.std.specs.List.{count_by}
use Rattle.pieces.specs.declared.entry.Entry.{Entry}
use Rattle.pieces.specs.Ranges.{is_within}
use Rattle.pieces.specs.Replacing.{indices_where}
use Rattle.pieces.proofs.Replacing.{given_up}
use Rattle.pieces.proofs.state.Pieces.give_up.Goals as goal

pub returns-clause-kept : goal.returns-clause-kept
returns-clause-kept c =
    let few = subst (λ (n : ℕ). n ≤ c.args.most) (c.count_within.ensures ∙ ap (count_by (is_within c.args.range.from c.args.range.next)) c.as_slice.ensures.value) c.if-count_within-most.false in
    let listed = c.in_ok-entries.ensures {u = tt} ∙ ap (λ (es : List Entry). indices_where (is_within c.args.range.from c.args.range.next) (length es) es) c.as_slice-2.ensures.value in
    given_up c.args.range.from c.args.range.next c.args.most _ _ _ few c.vacate_where.ensures.kept listed c.new.ensures.items
