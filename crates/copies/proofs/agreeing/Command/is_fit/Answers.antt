use Rattle.std.proofs.Common.{◌∙◌}
use Rattle.copies.proofs.Lists.{command_had}
use Rattle.copies.proofs.agreeing.Command.is_fit.Goals as goal

pub returns : goal.returns
returns g c = c.are_fit.ensures ∙ command_had c.args.self.now.0.items
