use Rattle.std.proofs.Common.{arith}
use Rattle.store.proofs.Ranges.{length-zero}
use Rattle.volumes.specs.Service.{the_service}
use Rattle.pieces.specs.Replacing.{the_blocks}
use Rattle.store.proofs.Ranges.{filled_step, filled_end}
use Rattle.store.proofs.store.Store.filled.Goals as goal

pub loop-stamped-preserved : goal.loop-stamped-preserved
loop-stamped-preserved c k =
    filled_step (the_service c.args.self.now.volumes) c.in-Some.stamped c.next.new.self.rest.items c.loop-stamped.stamped-iterator.rest.items (the_blocks c.loop-stamped.filled.items) (the_blocks c.push_filled.new.filled.items) _ c.in-Some.ensures.steps.0
    c.in_ok-push_filled.ensures (c.loop-stamped.invariant k)

pub returns : goal.returns
returns c k =
    filled_end (the_service c.args.self.now.volumes) c.loop-stamped.stamped-iterator.rest.items (the_blocks c.loop-stamped.filled.items) _ (length-zero c.loop-stamped.stamped-iterator.rest.items (omega (arith, c.in-None.ensures.steps.0, c.loop-stamped.stamped-iterator.rest.ok)))
    (c.loop-stamped.invariant k).1
