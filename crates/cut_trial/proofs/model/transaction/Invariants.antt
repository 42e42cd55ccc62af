use Rattle.cut_trial.specs.Models.{Chosen}
use Rattle.cut_trial.proofs.model.transaction.Given as goal

abbrev pub invariant-loop-i : goal.invariant-loop-i
invariant-loop-i l = Chosen l.i l.writes.items
