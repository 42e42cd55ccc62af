use Rattle.std.proofs.Common.{◌≡◌, None}
use Rattle.pieces_trial.proofs.catching.Pair.stray.Given as goal

abbrev pub invariant-loop : goal.invariant-loop
invariant-loop l = l.self.base ≡ None
