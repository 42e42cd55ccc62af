use Rattle.std.proofs.Common.{rules}
use Rattle.pieces.proofs.Slots.{got, got_none}
use Rattle.pieces.proofs.table.Table.get.Goals as goal

pub returns-in-Some : goal.returns-in-Some
returns-in-Some c = got _ c.args.volume.0 c.args.block.0 c.number_of.result c.in-Some.at c.word_at.result c.index.result.now c.number_of.ensures (search rules) c.index.ensures (search rules)

pub returns-in-None : goal.returns-in-None
returns-in-None c = got_none _ c.args.volume.0 c.args.block.0 c.number_of.result c.number_of.ensures (search rules)
