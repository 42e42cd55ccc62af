use Rattle.std.proofs.Common.{sym, ◌∙◌}
use Rattle.pieces.proofs.Hints.{place_found, place_none}
use Rattle.pieces.proofs.pieces.untaken_behind.Goals as goal

pub returns-in-Some : goal.returns-in-Some
returns-in-Some c = sym (place_found c.args.hint c.in-Some.at c.args.taken.now c.requires (sym c.untaken.ensures ∙ c.in-Some.is))

pub returns-in-None : goal.returns-in-None
returns-in-None c = sym (place_none c.args.hint c.args.taken.now c.requires (sym c.untaken.ensures ∙ c.in-None.is))
