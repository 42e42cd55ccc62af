use Rattle.std.proofs.Common.{take}
use Rattle.memory_disk.specs.Contents.{Lost}
use Rattle.memory_disk.proofs.sectors.Sectors.cut_all.Given as goal

abbrev pub invariant-loop-w : goal.invariant-loop-w
invariant-loop-w l = Lost (take l.w-index l.log) l.initial.self.written l.self.written
