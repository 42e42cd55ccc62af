use Rattle.std.proofs.Common.{◌≡◌, map, take}
use Rattle.store.specs.Known.{the_data}
use Rattle.store.specs.Parts.{given, the_stamped}
use Rattle.store.proofs.store.Store.blocks.Given as goal

abbrev pub invariant-loop-entry : goal.invariant-loop-entry
invariant-loop-entry l = map the_stamped l.blocks.items ≡ map (given (the_data l.self.known)) (take l.entry-index l.portion.entries.items)
