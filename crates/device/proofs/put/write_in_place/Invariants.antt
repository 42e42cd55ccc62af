use Rattle.std.proofs.Common.{drop}
use Rattle.journal.specs.Programs.{write_all_io}
use Rattle.device.specs.Does.{Left}
use Rattle.device.specs.declared.disk.Fault.{Fault}
use Rattle.device.proofs.put.write_in_place.Given as goal

abbrev pub invariant-loop-write : goal.invariant-loop-write
invariant-loop-write g l = Left Fault g.D.Disk.did (write_all_io l.writes) l.initial.disk (write_all_io (drop l.write-index l.writes)) l.disk
