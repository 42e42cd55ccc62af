use Rattle.std.proofs.Common.{vec_items, arith}
use Rattle.pieces.proofs.Agreeing.{said_none, said_some}
use Rattle.pieces.proofs.state.Pieces.index_of.Goals as goal

pub returns-then-word-eq0 : goal.returns-then-word-eq0
returns-then-word-eq0 c = said_none (vec_items c.args.self.now.table.pieces) (vec_items c.args.self.now.entries) c.args.volume.0 c.args.block.0 c.get-word.result c.args.self.now.agrees (omega arith) c.get-word.ensures (omega arith)

pub returns-else-word-eq0 : goal.returns-else-word-eq0
returns-else-word-eq0 c = said_some (vec_items c.args.self.now.table.pieces) (vec_items c.args.self.now.entries) c.args.volume.0 c.args.block.0 c.get-word.result c.args.self.now.agrees (omega arith) c.get-word.ensures (omega arith)
