use Rattle.std.proofs.Common.{rules}
use Rattle.octets.proofs.Numbers.{eight_bytes}
use Rattle.octets.proofs.writer.U64Number.put.Goals as goal

pub returns : goal.returns
returns c = let e = eight_bytes c.args.self in search rules
