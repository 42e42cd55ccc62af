use Rattle.std.proofs.Common.{◌≡◌, ◌++◌, drop}
use Rattle.pieces.specs.Kept.{the_kept}
use Rattle.store.specs.Stores.{places_of_items}
use Rattle.store.proofs.store.Store.push_places.Given as goal

abbrev pub invariant-loop-item : goal.invariant-loop-item
invariant-loop-item l = l.places.items ++ places_of_items (the_kept l.self.pieces) (drop l.item-index l.item-items) ≡ l.initial.places.items ++ places_of_items (the_kept l.self.pieces) l.item-items
