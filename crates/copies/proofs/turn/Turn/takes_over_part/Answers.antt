use Rattle.std.proofs.Common.{sym, ◌∙◌}
use Rattle.copies.specs.Views.{the_part, the_turn}
use Rattle.copies.proofs.Told.{brought}
use Rattle.copies.proofs.turn.Turn.takes_over_part.Goals as goal
use Rattle.copies.proofs.turn.Turn.takes_over_part.Goals.{then-is_replaced, else-is_replaced}

pub returns-clause-kept : goal.returns-clause-kept
returns-clause-kept g c = (
  λ e. absurd (cc),
  λ e. elim c.if-is_replaced.branch [
    | then-is_replaced w ↦ absurd (let a = w.turn-is in cc)
    | else-is_replaced w ↦ (sym w.turn-is ∙ e, brought c.args.from.0 (the_part c.args.part) (the_turn c.args.self) (the_turn c.taken-turn.result) c.taken-turn.ensures (sym c.is_replaced.ensures ∙ w.if-is_replaced.false))
  ],
)
