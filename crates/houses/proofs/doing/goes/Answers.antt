use Rattle.std.proofs.lemmas.Result.{err_from_is_err_and}
use Rattle.houses.proofs.Acting.{read_failed}
use Rattle.houses.proofs.doing.goes.Goals as goal

pub returns-in_err-sectors : goal.returns-in_err-sectors
returns-in_err-sectors g c =
    let p = err_from_is_err_and c.from_residual.result c.from_residual.ensures.1 in
    rw (p.1, p.2) (read_failed _ _ c.in_err-sectors.field-0.0 c.in_err-sectors.ensures)
