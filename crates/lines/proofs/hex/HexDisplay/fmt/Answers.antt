use Rattle.std.proofs.Common.{◌++◌, ◌∙◌, rules}
use Rattle.std.proofs.Output.{has_written_append}
use Rattle.std.specs.Slice.Iter.{chunks_rest}
use Rattle.lines.proofs.Steps.{hex_parts}
use Rattle.lines.proofs.hex.HexDisplay.fmt.Goals as goal

pub loop-run-preserved : goal.loop-run-preserved
loop-run-preserved g c =
    let steps = c.in-Some.ensures.steps in (
      search rules,
      tt,
      steps.0 ∙ c.loop-run.invariant.2,
      λ plain.
          let so_far = c.loop-run.invariant.3 plain in (
            so_far.0 ++ c.spell.result.now,
            has_written_append _ _ _ _ _ _ so_far.1 (search rules),
            hex_parts so_far.0 _ c.in-Some.run'.now (chunks_rest c.next.new.self) c.spell.result.now steps.1.0 c.spell.ensures ∙ so_far.2,
          ),
    )
