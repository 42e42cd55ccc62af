use Rattle.std.proofs.Common.{◌≡◌, ◌*◌, ◌==◌, false, refl, rules}
use Rattle.octets.specs.Numbers.{field}
use Rattle.volumes.specs.Service.{is_living}
use Rattle.pieces.specs.Kept.{the_kept}
use Rattle.pieces.proofs.Sectors.{loads_other}
use Rattle.pieces.proofs.state.Pieces.load_sector.Goals as goal

pub returns-else-eq-clause-kept : goal.returns-else-eq-clause-kept
returns-else-eq-clause-kept c =
    let other : (field 0 c.args.sector.now == c.args.generation.0) ≡ false = search rules in
    loads_other (is_living c.args.living.next c.args.living.heads.now) (7 * c.args.number) c.args.generation.0 c.args.sector.now (the_kept c.args.self.now) refl other
