use Rattle.std.proofs.Common.{◌≡◌}
use Rattle.pieces_trial.proofs.trial.Trial.learn.Given as goal

abbrev pub invariant-loop-block : goal.invariant-loop-block
invariant-loop-block l = l.self.pieces ≡ l.fn.self.pieces
