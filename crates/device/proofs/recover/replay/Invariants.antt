use Rattle.std.proofs.Common.{◌-◌}
use Rattle.journal.specs.Programs.{replay_from}
use Rattle.device.specs.Does.{Left}
use Rattle.device.specs.declared.disk.Fault.{Fault}
use Rattle.device.proofs.recover.replay.Given as goal

abbrev pub invariant-loop-i : goal.invariant-loop-i
invariant-loop-i g l = Left Fault g.D.Disk.did (replay_from l.at 0 l.count) l.initial.disk (replay_from l.at l.i (l.count - l.i)) l.disk
