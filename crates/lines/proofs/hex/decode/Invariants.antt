use Rattle.std.proofs.Common.{◌≡◌, drop, vec_items}
use Rattle.lines.proofs.Steps.{behind, bytes_of}
use Rattle.lines.proofs.hex.decode.Given as goal

abbrev pub invariant-loop-high : goal.invariant-loop-high
invariant-loop-high l = bytes_of l.pairs ≡ behind (vec_items l.out) (bytes_of (drop l.high-index l.pairs))
