use Rattle.std.proofs.Common.{length}
use Rattle.packets.proofs.sectors.+mask.Given as goal

abbrev pub decreases-mask : goal.decreases-mask
decreases-mask l = length l.sectors.now
