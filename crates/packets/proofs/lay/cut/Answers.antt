use Rattle.packets.specs.Areas.{cut}
use Rattle.packets.proofs.OnSectors.{cut_on, cut_done}
use Rattle.packets.proofs.lay.cut.Goals as goal

pub loop-preserved : goal.loop-preserved
loop-preserved c =
    rw (c.in_ok-push.ensures.items, c.first_sector.ensures, c.other_sectors-rest.ensures) (cut_on c.loop.sectors.items c.sectors_for-count.result c.loop.counter c.loop.rest.now (cut c.sectors_for-count.result c.args.bytes.now) c.loop-test.true c.loop.invariant)

pub returns : goal.returns
returns c =
    rw (← c.sectors_for-count.ensures) (cut_done c.loop.sectors.items c.sectors_for-count.result c.loop.counter c.loop.rest.now (cut c.sectors_for-count.result c.args.bytes.now) c.loop-test.false c.loop.invariant)
