use Rattle.std.proofs.Common.{refl, sym, ap}
use Rattle.std.proofs.lemmas.List.{map-append}
use Rattle.copies.specs.Runs.{left, replied}
use Rattle.copies.specs.Views.{the_replies}
use Rattle.copies.proofs.Exec.{left_next, replied_next}
use Rattle.copies.proofs.run.replies_to.Goals as goal

pub loop-item-init : goal.loop-item-init
unfolding replied left
loop-item-init g c = (ap the_replies c.new-replies.ensures.items, refl)

pub loop-item-preserved : goal.loop-item-preserved
loop-item-preserved g c =
    let told = c.in_ok-reply.ensures in
    let so_far = c.loop-item.invariant in (
      rw (c.in_ok-add.ensures, map-append, so_far.0, replied_next g.S.Service.reply g.S.Service.next c.args.calls.now c.loop-item.item-index c.item-item.result (g.S.Service.state c.args.service.now) c.loop-item-test.true c.item-item.is, told.0, so_far.1) refl,
      rw (told.1, so_far.1) (sym (left_next g.S.Service.next c.args.calls.now c.loop-item.item-index c.item-item.result (g.S.Service.state c.args.service.now) c.loop-item-test.true c.item-item.is)),
    )
