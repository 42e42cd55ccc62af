use Rattle.std.proofs.Common.{rules}
use Rattle.octets.proofs.Numbers.{four_bytes}
use Rattle.octets.proofs.writer.U32Number.put.Goals as goal

pub returns : goal.returns
returns c = let e = four_bytes c.args.self in search rules
