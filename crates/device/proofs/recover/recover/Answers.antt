use Rattle.std.proofs.Common.{rules}
use Rattle.journal.specs.Programs.{recover_io}
use Rattle.device.proofs.Steps.{does}
use Rattle.device.proofs.Tells.{tells}
use Rattle.device.proofs.Turns.{redo_in_order}
use Rattle.device.proofs.recover.recover.Goals as goal

pub returns-in_default : goal.returns-in_default
unfolding recover_io
returns-in_default g c = rw (c.in_default.is-0, c.in_default.is-1) (search (rules, does, tells))

pub returns-in_default-2 : goal.returns-in_default-2
unfolding recover_io
returns-in_default-2 g c = rw c.in_default.is-0 (search (rules, does, tells))

pub returns-in_err-redo : goal.returns-in_err-redo
returns-in_err-redo g c = rw (c.in-Ok-Ok.is-0, c.in-Ok-Ok.is-1) (redo_in_order _ _ _ _ c.of-found.ensures (search (rules, does, tells)))

pub returns : goal.returns
returns g c = rw (c.in-Ok-Ok.is-0, c.in-Ok-Ok.is-1) (redo_in_order _ _ _ _ c.of-found.ensures (search (rules, does, tells)))
