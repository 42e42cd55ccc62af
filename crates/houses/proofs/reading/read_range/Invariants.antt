use Rattle.std.proofs.Common.{◌+◌, ◌-◌, []}
use Rattle.device.specs.Does.{Left}
use Rattle.device.specs.declared.disk.Fault.{Fault}
use Rattle.houses.specs.Gathers.{gathers, places_from}
use Rattle.houses.proofs.reading.read_range.Given as goal

abbrev pub invariant-loop-i : goal.invariant-loop-i
invariant-loop-i g l = Left Fault g.D.Disk.did (gathers (places_from l.first l.count) []) l.initial.disk (gathers (places_from (l.first + l.i) (l.count - l.i)) l.all.items) l.disk
