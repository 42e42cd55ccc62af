use Rattle.std.proofs.Common.{rules}
use Rattle.device.proofs.Steps.{disks}
use Rattle.disks.specs.Device.{latest}
use Rattle.memory_disk.proofs.Ghosts.{settled_shows}
use Rattle.memory_disk.proofs.Requests.{it_settles}
use Rattle.memory_disk.proofs.disk.MemoryDiskDisk.sync.Goals as goal

pub invariant_of-self : goal.invariant_of-self
unfolding latest
invariant_of-self c = search (rules, settled_shows)

pub returns-clause-does : goal.returns-clause-does
returns-clause-does c = search (rules, disks, it_settles, c.in_ok-count.ensures.counted)
