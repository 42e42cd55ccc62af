use Rattle.std.proofs.Common.{◌≡◌, ◌*◌, take}
use Rattle.lines.specs.Hexes.{hex_of}
use Rattle.lines.proofs.hex.spell.Given as goal

abbrev pub invariant-loop-i : goal.invariant-loop-i
invariant-loop-i l = take (2 * l.i) l.room ≡ hex_of (take l.i l.bytes)
