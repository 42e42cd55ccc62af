use Rattle.std.proofs.Common.{◌≡◌, ◌++◌, take}
use Rattle.packets.specs.Formats.{held_of}
use Rattle.packets.proofs.sectors.put_held.Given as goal

abbrev pub invariant-loop-sector : goal.invariant-loop-sector
invariant-loop-sector l = l.out.items ≡ l.fn.out.items ++ held_of (take l.sector-index l.sectors)
