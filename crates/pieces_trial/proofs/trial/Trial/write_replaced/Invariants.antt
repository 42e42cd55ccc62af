use Rattle.std.proofs.Common.{◌≡◌}
use Rattle.pieces_trial.proofs.trial.Trial.write_replaced.Given as goal

abbrev pub invariant-loop-entry : goal.invariant-loop-entry
invariant-loop-entry l = l.self.pieces ≡ l.initial.self.pieces

abbrev pub invariant-loop-written : goal.invariant-loop-written
invariant-loop-written l = l.self.pieces ≡ l.initial.self.pieces
