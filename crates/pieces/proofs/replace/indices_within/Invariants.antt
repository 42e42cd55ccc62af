use Rattle.std.proofs.Common.{◌≡◌, vec_items}
use Rattle.pieces.specs.Ranges.{is_within}
use Rattle.pieces.specs.Replacing.{indices_where}
use Rattle.pieces.proofs.replace.indices_within.Given as goal

abbrev pub invariant-loop-index : goal.invariant-loop-index
invariant-loop-index l = vec_items l.indices ≡ indices_where (is_within l.range.from l.range.next) l.index l.entries
