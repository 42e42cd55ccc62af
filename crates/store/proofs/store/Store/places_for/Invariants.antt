use Rattle.std.proofs.Common.{◌≡◌, ◌++◌, drop}
use Rattle.pieces.specs.Kept.{the_kept}
use Rattle.store.specs.Stores.{places_of_command}
use Rattle.store.proofs.store.Store.places_for.Given as goal

abbrev pub invariant-loop-bundle : goal.invariant-loop-bundle
invariant-loop-bundle l = l.places.items ++ places_of_command (the_kept l.self.pieces) (drop l.bundle-index l.bundle-items) ≡ places_of_command (the_kept l.self.pieces) l.bundle-items
