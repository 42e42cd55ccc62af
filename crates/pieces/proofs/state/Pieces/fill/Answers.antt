use Rattle.std.proofs.Common.{rules, refl, ◌∙◌, vec_items, arith}
use Rattle.pieces.proofs.Replacing.{left_all, slots_one, slots_fail, slots_done, handed_on}
use Rattle.pieces.proofs.state.Pieces.fill.Goals as goal

pub loop-slot-init : goal.loop-slot-init
loop-slot-init c = record { kept = left_all _ _ _; layout = refl }

pub returns-in_err-set_listed-clause-kept : goal.returns-in_err-set_listed-clause-kept
returns-in_err-set_listed-clause-kept c =
    handed_on _ _ _ _ _ c.from_residual.result c.in_err-set_listed.field-0.0 (search rules)
    (slots_fail _ _ _ c.loop-slot.slot (vec_items c.args.block.now.sectors) c.index.result.now _ _ _ _ _ _ _ _ _ c.in_err-set_listed.field-0.0 (omega (arith, c.args.block.now.eight, c.loop-slot-test.true)) (search rules) c.loop-slot.invariant.kept (c.in_err-set_listed.ensures {u = tt}).kept)

pub returns-in_err-set_listed-clause-layout : goal.returns-in_err-set_listed-clause-layout
returns-in_err-set_listed-clause-layout c = (c.in_err-set_listed.ensures {u = tt}).layout ∙ c.loop-slot.invariant.layout

pub loop-slot-preserved : goal.loop-slot-preserved
loop-slot-preserved c = record {
  kept = slots_one _ _ _ c.loop-slot.slot (vec_items c.args.block.now.sectors) c.index.result.now _ _ _ _ _ _ _ (omega (arith, c.args.block.now.eight, c.loop-slot-test.true)) (search rules) c.loop-slot.invariant.kept (c.in_ok-set_listed.ensures {u = tt}).kept;
  layout = (c.in_ok-set_listed.ensures {u = tt}).layout ∙ c.loop-slot.invariant.layout;
}

pub returns-clause-kept : goal.returns-clause-kept
returns-clause-kept c = slots_done _ _ _ c.loop-slot.slot _ _ _ _ _ _ (omega (arith, c.args.block.now.eight)) c.loop-slot.invariant.kept

pub returns-clause-layout : goal.returns-clause-layout
returns-clause-layout c = c.loop-slot.invariant.layout
