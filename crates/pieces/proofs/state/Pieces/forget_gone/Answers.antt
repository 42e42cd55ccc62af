use Rattle.pieces.proofs.Forgetting.{tidy_means}
use Rattle.pieces.proofs.state.Pieces.forget_gone.Goals as goal

pub returns-clause-means : goal.returns-clause-means
returns-clause-means c = tidy_means
