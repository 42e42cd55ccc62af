use Rattle.std.proofs.Common.{rules}
use Rattle.store.specs.Known.{the_data}
use Rattle.store.proofs.Ranges.{overlaid_more, overlaid_end}
use Rattle.store.proofs.known.Known.put_all.Goals as goal

pub loop-one-preserved : goal.loop-one-preserved
loop-one-preserved c = (overlaid_more c.args.all.now c.loop-one.one-index _ (the_data c.loop-one.self) (the_data c.put.new.self) _ c.loop-one-test.true c.in_ok-put.ensures.data c.loop-one.invariant.0, search rules)

pub returns-clause-data : goal.returns-clause-data
returns-clause-data c = overlaid_end c.args.all.now c.loop-one.one-index (the_data c.loop-one.self) _ c.loop-one-test.false c.loop-one.invariant.0
