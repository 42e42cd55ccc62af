use Rattle.std.proofs.Common.{◌≡◌, drop}
use Rattle.pieces.specs.Loads.{take_all}
use Rattle.pieces.proofs.load.take_places.Given as goal

abbrev pub invariant-loop-place : goal.invariant-loop-place
invariant-loop-place l = take_all (drop l.place-index l.places) l.taken ≡ take_all l.places l.initial.taken
