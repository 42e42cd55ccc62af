use Rattle.std.proofs.Common.{rules, refl, ap, ◌∙◌, get_or, arith}
use Rattle.std.proofs.lemmas.List.{length-map, get_or-map}
use Rattle.pieces.specs.Replacing.{the_filled, the_blocks}
use Rattle.pieces.proofs.Replacing.{left_all, blocks_one, blocks_fail, blocks_done, handed_on}
use Rattle.pieces.proofs.state.Pieces.fill_all.Goals as goal

pub loop-block-init : goal.loop-block-init
loop-block-init c = record { kept = left_all _ _ _; layout = refl }

pub returns-in_err-fill-clause-kept : goal.returns-in_err-fill-clause-kept
returns-in_err-fill-clause-kept c =
    handed_on _ _ _ _ _ c.from_residual.result c.in_err-fill.field-0.0 (search rules)
    (blocks_fail c.loop-block.block-index (the_blocks c.args.blocks.now) (the_filled c.block-item.result) _ _ _ _ _ _ _ _ _ c.in_err-fill.field-0.0 (omega (arith, c.loop-block-test.true, length-map c.args.blocks.now the_filled)) (get_or-map the_filled c.args.blocks.now c.loop-block.block-index c.block-item.result (the_filled c.block-item.result) c.loop-block-test.true ∙ ap the_filled {x = get_or c.args.blocks.now c.loop-block.block-index c.block-item.result} {y = c.block-item.result} (search rules)) c.loop-block.invariant.kept (c.in_err-fill.ensures {u = tt}).kept)

pub returns-in_err-fill-clause-layout : goal.returns-in_err-fill-clause-layout
returns-in_err-fill-clause-layout c = (c.in_err-fill.ensures {u = tt}).layout ∙ c.loop-block.invariant.layout

pub loop-block-preserved : goal.loop-block-preserved
loop-block-preserved c = record {
  kept = blocks_one c.loop-block.block-index (the_blocks c.args.blocks.now) (the_filled c.block-item.result) _ _ _ _ _ _ _ (omega (arith, c.loop-block-test.true, length-map c.args.blocks.now the_filled)) (get_or-map the_filled c.args.blocks.now c.loop-block.block-index c.block-item.result (the_filled c.block-item.result) c.loop-block-test.true ∙ ap the_filled {x = get_or c.args.blocks.now c.loop-block.block-index c.block-item.result} {y = c.block-item.result} (search rules)) c.loop-block.invariant.kept (c.in_ok-fill.ensures {u = tt}).kept;
  layout = (c.in_ok-fill.ensures {u = tt}).layout ∙ c.loop-block.invariant.layout;
}

pub returns-clause-kept : goal.returns-clause-kept
returns-clause-kept c = blocks_done c.loop-block.block-index (the_blocks c.args.blocks.now) _ _ _ _ _ (omega (arith, c.loop-block-test.false, length-map c.args.blocks.now the_filled)) c.loop-block.invariant.kept

pub returns-clause-layout : goal.returns-clause-layout
returns-clause-layout c = c.loop-block.invariant.layout
