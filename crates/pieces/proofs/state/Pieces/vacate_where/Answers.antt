use Rattle.std.proofs.Common.{refl, ◌∙◌, ap, length}
use Rattle.pieces.proofs.Steps.{where_none, where_more, long_vacates}
use Rattle.pieces.proofs.Vacating.{vacate_means}
use Rattle.pieces.specs.Kept.{Kept}
use Rattle.pieces.proofs.state.Pieces.vacate_where.Goals as goal

pub loop-index-init : goal.loop-index-init
loop-index-init g c = record { kept = where_none (g.C.Choice.chosen c.args.choice.now) _; long = refl; layout = refl }

pub loop-index-preserved : goal.loop-index-preserved
loop-index-preserved g c =
    let v = c.loop-index.invariant in
    record {
      kept = where_more (g.C.Choice.chosen c.args.choice.now) c.loop-index.index _ _ _ v.kept c.vacate_at.ensures.kept;
      long = ap (λ (x : Kept). length x.entries) c.vacate_at.ensures.kept ∙ long_vacates (g.C.Choice.chosen c.args.choice.now) c.loop-index.index _ ∙ v.long;
      layout = c.vacate_at.ensures.layout ∙ v.layout;
    }

pub returns-clause-means : goal.returns-clause-means
returns-clause-means g c = vacate_means
