use Rattle.wire.specs.Calls.{the_call}
use Rattle.volumes.specs.Service.{the_service, the_served}
use Rattle.store.specs.Stores.{the_held}
use Rattle.store.proofs.Serving.{old_here}
use Rattle.store.proofs.store.Store.plays.Goals as goal

pub keep-requires : goal.keep-requires
keep-requires c =
    old_here c.args.self.now.volumes.room (the_service c.args.self.now.volumes) (the_held c.args.self.now) (the_call c.args.call) c.old-old.result (the_served c.exec-outcome.result c.exec-outcome.new.self)
    c.old-old.ensures c.exec-outcome.ensures.served
