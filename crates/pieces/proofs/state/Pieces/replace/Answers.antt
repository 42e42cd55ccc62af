use Rattle.std.proofs.Common.{rules}
use Rattle.pieces.proofs.ReplaceMeaning.{replace_means}
use Rattle.pieces.proofs.Replacing.{begin_fails, fill_fails, replaced_all, all_handed_on}
use Rattle.pieces.proofs.state.Pieces.replace.Goals as goal

pub returns-in_err-replaced-clause-kept : goal.returns-in_err-replaced-clause-kept
returns-in_err-replaced-clause-kept c = all_handed_on _ _ _ c.from_residual.result c.in_err-replaced.field-0.0 (search rules) (begin_fails _ _ _ _ _ _ _ _ _ c.in_err-replaced.field-0.0 (c.in_err-replaced.ensures {u = tt}).kept)

pub returns-in_err-fill_all-clause-kept : goal.returns-in_err-fill_all-clause-kept
returns-in_err-fill_all-clause-kept c =
    all_handed_on _ _ _ c.from_residual-in_err-fill_all.result c.in_err-fill_all.field-0.0 (search rules) (fill_fails _ _ _ _ _ _ _ _ _ _ _ _ c.in_err-fill_all.field-0.0 (c.in_ok-replaced.ensures {u = tt}).kept (c.in_err-fill_all.ensures {u = tt}).kept)

pub returns-clause-kept : goal.returns-clause-kept
returns-clause-kept c = replaced_all _ _ _ _ c.args.taking.floor.0 _ _ _ _ _ _ _ (c.in_ok-replaced.ensures {u = tt}).kept (c.in_ok-fill_all.ensures {u = tt}).kept c.raise_floor.ensures.kept

pub returns-in_err-replaced-clause-means : goal.returns-in_err-replaced-clause-means
returns-in_err-replaced-clause-means c = replace_means

pub returns-in_err-fill_all-clause-means : goal.returns-in_err-fill_all-clause-means
returns-in_err-fill_all-clause-means c = replace_means

pub returns-clause-means : goal.returns-clause-means
returns-clause-means c = replace_means
