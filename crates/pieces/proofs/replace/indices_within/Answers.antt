use Rattle.std.proofs.Common.{◌∙◌, ℕ, Vec, Global, sym, ap, vec_items}
use Rattle.pieces.proofs.Replacing.{indices_none, indices_more, indices_same}
use Rattle.pieces.proofs.replace.indices_within.Goals as goal
use Rattle.pieces.proofs.replace.indices_within.Goals.{then-chooses+in_ok-push, else-chooses}

pub loop-index-init : goal.loop-index-init
loop-index-init c = c.new-indices.ensures.items ∙ indices_none _ _

pub loop-index-preserved : goal.loop-index-preserved
loop-index-preserved c = elim c.if-chooses.branch [
  | then-chooses+in_ok-push w ↦ indices_more _ c.loop-index.index c.args.entries.now _ _ _ c.loop-index-test.true c.loop-index.invariant (sym c.chooses.ensures ∙ w.if-chooses.true) (ap (λ (z : Vec ℕ Global). vec_items z) w.indices-is ∙ (w.in_ok-push.ensures {u = tt}).items)
  | else-chooses w ↦ indices_same _ c.loop-index.index c.args.entries.now _ _ _ c.loop-index-test.true c.loop-index.invariant (sym c.chooses.ensures ∙ w.if-chooses.false) (ap (λ (z : Vec ℕ Global). vec_items z) w.indices-is)
]
