use Rattle.pieces.proofs.SetMeaning.{set_means}
use Rattle.pieces.proofs.Always.{always_room}
use Rattle.pieces.proofs.state.Pieces.set.Goals as goal

pub returns-then-is_blank-clause-means : goal.returns-then-is_blank-clause-means
returns-then-is_blank-clause-means c = set_means

pub returns-then-is_blank-clause-room : goal.returns-then-is_blank-clause-room
returns-then-is_blank-clause-room c = always_room

pub returns-else-is_blank-clause-means : goal.returns-else-is_blank-clause-means
returns-else-is_blank-clause-means c = set_means

pub returns-else-is_blank-clause-room : goal.returns-else-is_blank-clause-room
returns-else-is_blank-clause-room c = always_room
