use Rattle.pieces_trial.proofs.Taking.{still_comes}
use Rattle.pieces_trial.proofs.trial.Trial.take.Goals as goal

pub returns-in_ok-learn-in-Ok-clause-taken : goal.returns-in_ok-learn-in-Ok-clause-taken
returns-in_ok-learn-in-Ok-clause-taken c = λ e. (c.in-Ok.replaced, still_comes _ _ _ _ _ _ c.learn.ensures c.write_replaced.ensures c.in-Ok.ensures.kept)
