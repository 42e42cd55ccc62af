use Rattle.std.proofs.Common.{rules}
use Rattle.pieces.proofs.Bytes.{last_five}
use Rattle.pieces.proofs.entry.put_five.Goals as goal

pub returns : goal.returns
returns c = let e = last_five c.args.place in search rules
