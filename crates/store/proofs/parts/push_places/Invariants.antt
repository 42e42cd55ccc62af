use Rattle.std.proofs.Common.{◌≡◌, ◌++◌, drop}
use Rattle.store.specs.Parts.{places_in}
use Rattle.store.proofs.parts.push_places.Given as goal

abbrev pub invariant-loop-place : goal.invariant-loop-place
invariant-loop-place l = l.places.items ++ places_in (drop l.place-index l.entry.places) ≡ l.initial.places.items ++ places_in l.entry.places
