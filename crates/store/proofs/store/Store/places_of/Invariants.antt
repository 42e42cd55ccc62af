use Rattle.std.proofs.Common.{◌≡◌, ◌++◌, drop}
use Rattle.store.specs.Parts.{places_of}
use Rattle.store.proofs.store.Store.places_of.Given as goal

abbrev pub invariant-loop-entry : goal.invariant-loop-entry
invariant-loop-entry l = l.places.items ++ places_of (drop l.entry-index l.entry-items) ≡ places_of l.entry-items
