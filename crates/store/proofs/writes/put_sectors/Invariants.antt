use Rattle.std.proofs.Common.{◌≡◌, ◌+◌, ◌++◌, drop}
use Rattle.store.specs.Writes.{table_from}
use Rattle.store.proofs.writes.put_sectors.Given as goal

abbrev pub invariant-loop-i : goal.invariant-loop-i
invariant-loop-i l = l.out.items ++ table_from (l.first + l.i) (drop l.i l.sectors) ≡ l.initial.out.items ++ table_from l.first l.sectors
