use Rattle.pieces.proofs.Forgetting.{forget_means}
use Rattle.pieces.proofs.state.Pieces.forget.Goals as goal

pub returns-clause-means : goal.returns-clause-means
returns-clause-means c = forget_means
