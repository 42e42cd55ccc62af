use Rattle.std.proofs.Common.{length}
use Rattle.volumes.proofs.restored.+weigh.Given as goal

abbrev pub decreases-weigh : goal.decreases-weigh
decreases-weigh l = length l.heads.now
