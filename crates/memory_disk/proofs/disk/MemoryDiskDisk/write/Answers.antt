use Rattle.std.proofs.Common.{rules}
use Rattle.device.proofs.Steps.{disks}
use Rattle.memory_disk.proofs.Requests.{it_takes}
use Rattle.memory_disk.proofs.disk.MemoryDiskDisk.write.Goals as goal

pub returns-in-Ok-clause-does : goal.returns-in-Ok-clause-does
returns-in-Ok-clause-does c = search (rules, disks, it_takes, c.in_ok-count.ensures.counted, c.in-Ok.ensures)
