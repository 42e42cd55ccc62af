use Rattle.std.proofs.Common.{rules}
use Rattle.journal.proofs.Sectors.{four_read}
use Rattle.journal.proofs.part.Part.read.Goals as goal

pub returns : goal.returns
returns c = four_read c.args.sector.now c.unwrap.result (search rules)
