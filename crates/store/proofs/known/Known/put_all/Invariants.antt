use Rattle.std.proofs.Common.{◌≡◌, drop}
use Rattle.pieces.specs.Replacing.{overlaid}
use Rattle.store.specs.Known.{the_data}
use Rattle.store.proofs.known.Known.put_all.Given as goal

abbrev pub invariant-loop-one : goal.invariant-loop-one
invariant-loop-one l = (overlaid (drop l.one-index l.all) (the_data l.self) ≡ overlaid l.all (the_data l.initial.self)) × (l.self.read ≡ l.initial.self.read)
