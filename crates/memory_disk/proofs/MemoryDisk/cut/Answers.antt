use Rattle.std.proofs.Common.{rules}
use Rattle.memory_disk.proofs.Requests.{it_cuts}
use Rattle.memory_disk.proofs.MemoryDisk.cut.Goals as goal

pub returns-clause-cuts : goal.returns-clause-cuts
returns-clause-cuts c = search (rules, it_cuts)
