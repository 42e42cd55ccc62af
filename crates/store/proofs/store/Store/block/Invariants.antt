use Rattle.std.proofs.Common.{◌≡◌, map, take}
use Rattle.pieces.specs.Meaning.{content}
use Rattle.store.specs.Known.{the_data}
use Rattle.store.proofs.store.Store.block.Given as goal

abbrev pub invariant-loop-place : goal.invariant-loop-place
invariant-loop-place l = l.sectors.items ≡ map (content (the_data l.self.known)) (take l.place-index l.entry.places)
