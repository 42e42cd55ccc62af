use Rattle.std.proofs.Common.{List, Ok, Err, subst}
use Rattle.journal.specs.declared.state.Write.{Write}
use Rattle.houses.specs.Acts.{Stored}
use Rattle.houses.proofs.Acting.{stored_well, stored_ill}
use Rattle.houses.proofs.doing.stores.Goals as goal

pub returns-in-Ok : goal.returns-in-Ok
returns-in-Ok g c =
    subst (λ (ws : List Write). Stored g.D.Disk.did c.args.journal ws c.args.disk.now (Ok c.stored.new.journal) c.stored.new.disk) c.deref.ensures.value (stored_well _ _ _ c.in-Ok.is c.stored.ensures)

pub returns-in-Err : goal.returns-in-Err
returns-in-Err g c =
    subst (λ (ws : List Write). Stored g.D.Disk.did c.args.journal ws c.args.disk.now (Err c.broken.result) c.stored.new.disk) c.deref.ensures.value (stored_ill _ _ _ c.in-Err.is c.stored.ensures c.broken.ensures)
