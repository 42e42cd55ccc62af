use Rattle.std.proofs.Common.{rules}
use Rattle.packets.proofs.NumberBytes.{two_bytes}
use Rattle.packets.proofs.number.U16Bytes.put.Goals as goal

pub returns : goal.returns
returns c = let e = two_bytes c.args.self.now in search rules
