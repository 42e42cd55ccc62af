use Rattle.std.proofs.Common.{◌≡◌, ◌+◌, ◌*◌, ◌++◌, ◌∷◌, [], take}
use Rattle.std.specs.List.{flat_map}
use Rattle.octets.specs.Numbers.{numbers_bytes}
use Rattle.pieces.specs.Entries.{five_bytes}
use Rattle.pieces.proofs.entry.Entry.fill.Given as goal

abbrev pub invariant-loop-i : goal.invariant-loop-i
invariant-loop-i l = take (24 + 5 * l.i) l.out ≡ numbers_bytes (l.self.volume.0 ∷ l.self.block.0 ∷ l.self.stamp.0 ∷ []) ++ flat_map five_bytes (take l.i l.self.places)
