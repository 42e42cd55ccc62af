use Rattle.std.proofs.Common.{◌≡◌, ◌++◌, map, take}
use Rattle.store.specs.Writes.{data_write}
use Rattle.store.proofs.store.Store.put_data.Given as goal

abbrev pub invariant-loop-written : goal.invariant-loop-written
invariant-loop-written l = l.out.items ≡ l.initial.out.items ++ map (data_write l.self.pieces.layout.size) (take l.written-index l.written-items)
