use Rattle.std.proofs.Common.{◌≡◌, take, length}
use Rattle.pieces.specs.Entries.{places_in}
use Rattle.pieces.proofs.entry.read_places.Given as goal

abbrev pub invariant-loop-i : goal.invariant-loop-i
invariant-loop-i l = record { long : length l.places ≡ 8; read : take l.i l.places ≡ places_in l.i l.bytes }
