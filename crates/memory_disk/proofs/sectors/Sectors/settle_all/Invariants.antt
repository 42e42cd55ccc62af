use Rattle.std.proofs.Common.{take}
use Rattle.memory_disk.specs.Contents.{Settled}
use Rattle.memory_disk.proofs.sectors.Sectors.settle_all.Given as goal

abbrev pub invariant-loop-w : goal.invariant-loop-w
invariant-loop-w l = Settled (take l.w-index l.log) l.initial.self.written l.self.written
