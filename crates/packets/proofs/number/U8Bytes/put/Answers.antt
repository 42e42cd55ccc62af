use Rattle.std.proofs.Common.{rules}
use Rattle.packets.proofs.NumberBytes.{one_byte}
use Rattle.packets.proofs.number.U8Bytes.put.Goals as goal

pub returns : goal.returns
returns c = let e = one_byte c.args.self.now in search rules
