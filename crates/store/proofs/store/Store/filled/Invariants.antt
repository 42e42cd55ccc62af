use Rattle.std.proofs.Common.{◌≡◌, ◌++◌, map}
use Rattle.volumes.specs.Service.{the_service}
use Rattle.pieces.specs.Replacing.{the_blocks}
use Rattle.keeping.specs.Keeping.{filled_of}
use Rattle.store.specs.Parts.{AreKeys, the_stamped}
use Rattle.store.proofs.store.Store.filled.Given as goal

abbrev pub invariant-loop-stamped : goal.invariant-loop-stamped
invariant-loop-stamped l =
    AreKeys l.fn.blocks.items →
    AreKeys l.stamped-iterator.rest.items × (the_blocks l.filled.items ++ filled_of (the_service l.self.volumes) (map the_stamped l.stamped-iterator.rest.items) ≡ filled_of (the_service l.self.volumes) (map the_stamped l.fn.blocks.items))
