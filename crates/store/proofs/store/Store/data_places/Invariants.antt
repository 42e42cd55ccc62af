use Rattle.std.proofs.Common.{◌≡◌, map, take}
use Rattle.pieces.specs.Layouts.{data_place}
use Rattle.store.proofs.store.Store.data_places.Given as goal

abbrev pub invariant-loop-place : goal.invariant-loop-place
invariant-loop-place l = map (λ p. p.0) l.found.items ≡ map (data_place l.self.pieces.layout.size) (take l.place-index l.places)
