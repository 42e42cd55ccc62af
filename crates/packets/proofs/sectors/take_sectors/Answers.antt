use Rattle.std.proofs.lemmas.Result.{err_from_is_err_and}
use Rattle.packets.specs.Formats.{sectors_at}
use Rattle.packets.proofs.Blocks.{sectors_on, sectors_end, sectors_done}
use Rattle.packets.proofs.sectors.take_sectors.Goals as goal

pub returns-in_err-sector : goal.returns-in_err-sector
returns-in_err-sector c =
    let p = err_from_is_err_and c.from_residual.result c.from_residual.ensures.1 in
    rw (p.1, p.2) (sectors_end c.in_err-sector.field-0.0 c.loop.sectors.items 8 c.loop.counter c.loop.left c.loop.rest.now (sectors_at 8 c.args.mask c.args.bytes.now) c.loop-test.true c.in_err-sector.ensures c.loop.invariant)

pub loop-preserved : goal.loop-preserved
loop-preserved c =
    rw c.in_ok-push.ensures.items (sectors_on c.loop.sectors.items 8 c.loop.counter c.loop.left c.loop.rest.now c.in_ok-sector.sector c.in_ok-sector.after.now (sectors_at 8 c.args.mask c.args.bytes.now) c.loop-test.true c.in_ok-sector.ensures c.loop.invariant)

pub returns : goal.returns
returns c = sectors_done c.loop.sectors.items 8 c.loop.counter c.loop.left c.loop.rest.now (sectors_at 8 c.args.mask c.args.bytes.now) c.loop-test.false c.loop.invariant
