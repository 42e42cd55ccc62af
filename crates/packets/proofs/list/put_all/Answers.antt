use Rattle.std.proofs.Common.{length}
use Rattle.std.proofs.lemmas.Result.{err_from_is_err_and}
use Rattle.packets.proofs.Loops.{all_put, not_put}
use Rattle.packets.proofs.list.put_all.Goals as goal

pub returns : goal.returns
returns g c = all_put g.T.Bytes.codec g.T.Bytes.view c.args.items.now c.loop-item.item-index c.args.out.now.items c.loop-item.out.items c.loop-item-test.false c.loop-item.invariant.spelled c.loop-item.invariant.fits

pub returns-in_err-put : goal.returns-in_err-put
returns-in_err-put g c =
    let p = err_from_is_err_and c.from_residual.result c.from_residual.ensures.1 in
    rw (p.1, p.2) (not_put g.T.Bytes.codec g.T.Bytes.view c.in_err-put.field-0.0 (length c.args.items.now) c.loop-item.item-index c.args.items.now c.item-item.result c.loop-item-test.true c.item-item.is c.in_err-put.ensures)
