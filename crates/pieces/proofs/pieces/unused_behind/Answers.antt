use Rattle.std.proofs.Common.{sym, ◌∙◌}
use Rattle.pieces.proofs.Hints.{unused_found, unused_none}
use Rattle.pieces.proofs.pieces.unused_behind.Goals as goal

pub returns-in-Some : goal.returns-in-Some
returns-in-Some c = sym (unused_found c.args.hint c.in-Some.at c.args.entries.now c.requires (sym c.unused.ensures ∙ c.in-Some.is))

pub returns-in-None : goal.returns-in-None
returns-in-None c = sym (unused_none c.args.hint c.args.entries.now c.requires (sym c.unused.ensures ∙ c.in-None.is))
