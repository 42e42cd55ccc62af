use Rattle.std.proofs.Common.{sym, ◌∙◌, arith}
use Rattle.std.proofs.lemmas.Grind.{common_steps}
use Rattle.volumes.specs.Service.{is_head, new_head}
use Rattle.volumes.proofs.Firsts.{lies_nowhere, lies_at}
use Rattle.volumes.proofs.service.find.Goals as goal

pub returns-in_err-at : goal.returns-in_err-at
returns-in_err-at c = grind (arith, common_steps, c.from_residual.ensures, c.in_err-at.was, c.in_err-at.ensures.value, c.in_err-at.ensures.variant, c.position.ensures, lies_nowhere (is_head c.args.volume.0) c.args.heads.now (new_head 0 0))

pub bounds-heads-at : goal.bounds-heads-at
bounds-heads-at c = (lies_at (is_head c.args.volume.0) c.args.heads.now c.in_ok-at.at (new_head 0 0) (sym c.position.ensures ∙ c.in_ok-at.ensures.ok_part)).at

pub offset_bounds-heads-at : goal.offset_bounds-heads-at
offset_bounds-heads-at c = omega (arith, (lies_at (is_head c.args.volume.0) c.args.heads.now c.in_ok-at.at (new_head 0 0) (sym c.position.ensures ∙ c.in_ok-at.ensures.ok_part)).at)

pub returns : goal.returns
returns c = lies_at (is_head c.args.volume.0) c.args.heads.now c.in_ok-at.at (new_head 0 0) (sym c.position.ensures ∙ c.in_ok-at.ensures.ok_part)
