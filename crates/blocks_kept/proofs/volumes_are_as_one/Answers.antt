use Rattle.blocks_kept.proofs.Volumes.{volumes_as_one, volumes_answer}
use Rattle.blocks_kept.proofs.volumes_are_as_one.Goals as goal

pub returns : goal.returns
returns c = record { as_one = volumes_as_one; answer = volumes_answer }
