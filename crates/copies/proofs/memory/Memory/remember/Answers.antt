use Rattle.std.proofs.Common.{refl}
use Rattle.copies.proofs.Lists.{remembered_had}
use Rattle.copies.proofs.memory.Memory.remember.Goals as goal

pub returns : goal.returns
returns g c = rw (remembered_had c.args.bundle c.args.self.now.heard.items c.forget.new.heard.items c.insert.new.self.items c.forget.ensures c.in_ok-insert.ensures.items) refl
