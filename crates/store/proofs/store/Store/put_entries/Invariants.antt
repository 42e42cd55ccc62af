use Rattle.std.proofs.Common.{◌≡◌, drop}
use Rattle.pieces.specs.Kept.{the_kept}
use Rattle.store.specs.Writes.{with_sectors_of}
use Rattle.store.proofs.store.Store.put_entries.Given as goal

abbrev pub invariant-loop-entry : goal.invariant-loop-entry
invariant-loop-entry l = with_sectors_of l.self.generation.0 (the_kept l.self.pieces) (drop l.entry-index l.entry-items) l.out.items ≡ with_sectors_of l.self.generation.0 (the_kept l.self.pieces) l.entry-items l.initial.out.items
