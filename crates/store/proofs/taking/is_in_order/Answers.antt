use Rattle.std.proofs.Common.{sym, ◌∙◌}
use Rattle.store.specs.Parts.{key_number}
use Rattle.store.proofs.Ranges.{ordered_step, ordered_not, ordered_end}
use Rattle.store.proofs.taking.is_in_order.Goals as goal

pub returns-then-not-is_in_range : goal.returns-then-not-is_in_range
returns-then-not-is_in_range c k = ordered_not c.loop-stamped.least (key_number c.args.next) c.args.blocks.now c.loop-stamped.stamped-index _ c.stamped-item.result _ c.loop-stamped-test.true c.stamped-item.is (sym c.if-not-is_in_range.true ∙ c.is_in_range.ensures) (c.loop-stamped.invariant k)

pub loop-stamped-preserved : goal.loop-stamped-preserved
loop-stamped-preserved c k =
    ordered_step c.loop-stamped.least c.behind-least.result (key_number c.args.next) c.args.blocks.now c.loop-stamped.stamped-index _ c.stamped-item.result _ k c.loop-stamped-test.true c.stamped-item.is (sym c.if-not-is_in_range.false ∙ c.is_in_range.ensures) c.behind-least.ensures (c.loop-stamped.invariant k)

pub returns : goal.returns
returns c k = ordered_end c.loop-stamped.least (key_number c.args.next) c.args.blocks.now c.loop-stamped.stamped-index _ c.loop-stamped-test.false (c.loop-stamped.invariant k)
