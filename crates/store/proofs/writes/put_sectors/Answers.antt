use Rattle.store.proofs.Listing.{table_more, table_end}
use Rattle.store.proofs.writes.put_sectors.Goals as goal

pub loop-i-preserved : goal.loop-i-preserved
loop-i-preserved c = table_more c.args.first c.args.sectors.now c.loop-i.i _ c.loop-i.out.items c.push.new.self.items _ c.loop-i-test.true c.in_ok-push.ensures.items c.loop-i.invariant

pub returns : goal.returns
returns c = table_end c.args.first c.args.sectors.now c.loop-i.i c.loop-i.out.items _ c.loop-i-test.false c.loop-i.invariant
