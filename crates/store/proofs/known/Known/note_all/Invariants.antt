use Rattle.std.proofs.Common.{◌≡◌, ◌++◌, drop}
use Rattle.store.specs.Known.{noted}
use Rattle.store.proofs.known.Known.note_all.Given as goal

abbrev pub invariant-loop-i : goal.invariant-loop-i
invariant-loop-i l = (l.self.read.items ++ noted (drop l.i l.places) (drop l.i l.sectors) ≡ l.initial.self.read.items ++ noted l.places l.sectors) × (l.self.written ≡ l.initial.self.written)
