use Rattle.std.proofs.Common.{◌≡◌, ◌∷◌, take, vec_items}
use Rattle.octets.specs.Numbers.{numbers_bytes}
use Rattle.octets.proofs.writer.message.Given as goal

abbrev pub invariant-loop-n : goal.invariant-loop-n
invariant-loop-n l = vec_items l.out ≡ l.first ∷ numbers_bytes (take l.n-index l.numbers)
