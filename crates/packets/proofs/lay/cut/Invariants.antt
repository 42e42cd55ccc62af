use Rattle.std.proofs.Common.{◌≡◌, ◌++◌, ◌-◌}
use Rattle.packets.specs.Areas.{cut}
use Rattle.packets.proofs.lay.cut.Given as goal

abbrev pub invariant-loop : goal.invariant-loop
invariant-loop l = l.sectors.items ++ cut (l.count - l.counter) l.rest ≡ cut l.count l.bytes
