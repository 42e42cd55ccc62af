use Rattle.std.proofs.Common.{◌-◌, ◌*◌, length}
use Rattle.journal.specs.Programs.{write_all_io, record_of, record_from}
use Rattle.device.specs.Does.{Left}
use Rattle.device.specs.declared.disk.Fault.{Fault}
use Rattle.device.proofs.put.write_record.Given as goal

abbrev pub invariant-loop-i : goal.invariant-loop-i
invariant-loop-i g l =
    Left Fault g.D.Disk.did (write_all_io (record_of l.at l.number l.writes)) l.initial.disk
    (write_all_io (record_from l.at l.number l.writes (2 * l.i) (2 * (length l.writes - l.i)))) l.disk
