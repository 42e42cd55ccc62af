use Rattle.std.proofs.Common.{◌≡◌}
use Rattle.pieces_trial.proofs.trial.Trial.learn_block.Given as goal

abbrev pub invariant-loop-slot : goal.invariant-loop-slot
invariant-loop-slot l = l.self.pieces ≡ l.initial.self.pieces
