use Rattle.std.proofs.Common.{rules}
use Rattle.memory_disk.proofs.Ghosts.{noted_shows}
use Rattle.memory_disk.proofs.MemoryDisk.note.Goals as goal

pub invariant_of-self-2 : goal.invariant_of-self-2
invariant_of-self-2 c = search (rules, noted_shows, c.in_ok-write.ensures.wrote)
