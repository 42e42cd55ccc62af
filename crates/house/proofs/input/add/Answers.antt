use Rattle.std.proofs.Common.{rules}
use Rattle.house.proofs.Pieces.{taken_front, taken_within}
use Rattle.house.proofs.input.add.Goals as goal

pub returns-clause-taken : goal.returns-clause-taken
returns-clause-taken c =
    taken_front c.read_until.result c.args.line.now.items c.read_until.new.buf.items _ _ c.take-front.result.limit c.args.part.now c.take-front.result.inner.now _ (search rules) (search rules) (search rules) c.read_until.ensures.none_lost c.read_until.ensures.appends c.read_until.ensures.ok

pub returns-clause-within : goal.returns-clause-within
returns-clause-within c =
    taken_within c.read_until.result c.args.line.now.items c.read_until.new.buf.items _ _ c.take-front.result.limit c.args.part.now c.take-front.result.inner.now _ (search rules) (search rules) (search rules) c.read_until.ensures.none_lost c.read_until.ensures.ok
