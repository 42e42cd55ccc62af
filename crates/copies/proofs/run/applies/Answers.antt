use Rattle.std.proofs.Common.{refl}
use Rattle.copies.specs.Runs.{command_run}
use Rattle.copies.proofs.Exec.{run_next}
use Rattle.copies.proofs.run.applies.Goals as goal

pub loop-bundle-init : goal.loop-bundle-init
unfolding command_run
loop-bundle-init g c = refl

pub loop-bundle-preserved : goal.loop-bundle-preserved
loop-bundle-preserved g c =
    let lt = rw c.deref-bundle-items.ensures.value at c.loop-bundle-test.true in
    let at = rw c.deref-bundle-items.ensures.value at c.bundle-item.is in
    rw (run_next g.S.Service.reply g.S.Service.next c.args.command.now.0.items c.loop-bundle.bundle-index c.bundle-item.result _ lt at, ← c.loop-bundle.invariant) c.in_ok-bundle_runs.ensures
