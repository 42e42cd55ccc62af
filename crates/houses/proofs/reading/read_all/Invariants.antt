use Rattle.std.proofs.Common.{drop, []}
use Rattle.device.specs.Does.{Left}
use Rattle.device.specs.declared.disk.Fault.{Fault}
use Rattle.houses.specs.Gathers.{gathers, the_places}
use Rattle.houses.proofs.reading.read_all.Given as goal

abbrev pub invariant-loop-place : goal.invariant-loop-place
invariant-loop-place g l = Left Fault g.D.Disk.did (gathers (the_places l.places) []) l.initial.disk (gathers (the_places (drop l.place-index l.places)) l.all.items) l.disk
