use Rattle.std.proofs.Common.{◌≡◌, ◌-◌}
use Rattle.packets.specs.Formats.{sectors_at}
use Rattle.packets.proofs.Loops.{with_front}
use Rattle.packets.proofs.sectors.take_sectors.Given as goal

abbrev pub invariant-loop : goal.invariant-loop
invariant-loop l = with_front l.sectors.items (sectors_at (8 - l.counter) l.left l.rest) ≡ sectors_at 8 l.mask l.bytes
