use Rattle.std.proofs.Common.{◌-◌, Ok}
use Rattle.journal.specs.Format.{slot_sectors}
use Rattle.journal.specs.Programs.{scan_from}
use Rattle.journal.specs.Scans.{scan_start}
use Rattle.device.specs.Does.{Left}
use Rattle.device.specs.declared.disk.Fault.{Fault}
use Rattle.device.proofs.open.scan.Given as goal

abbrev pub invariant-loop-i : goal.invariant-loop-i
invariant-loop-i g l = Left Fault g.D.Disk.did (scan_from l.size l.at 0 slot_sectors (Ok scan_start)) l.initial.disk (scan_from l.size l.at l.i (slot_sectors - l.i) l.found) l.disk
