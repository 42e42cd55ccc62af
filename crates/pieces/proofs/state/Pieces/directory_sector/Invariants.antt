use Rattle.std.proofs.Common.{◌≡◌, ◌+◌, ◌*◌, ◌++◌, take, drop, length, vec_items}
use Rattle.std.specs.List.{flat_map}
use Rattle.disks.specs.Device.{zeros}
use Rattle.octets.specs.Numbers.{bytes_of}
use Rattle.pieces.specs.Entries.{entry_bytes}
use Rattle.pieces.proofs.state.Pieces.directory_sector.Given as goal

abbrev pub invariant-loop-i : goal.invariant-loop-i
invariant-loop-i l = record {
  long : length l.sector ≡ 512;
  laid : take (64 + 64 * l.i) l.sector ≡ (bytes_of 8 l.fn.generation.0 ++ zeros 56) ++ flat_map entry_bytes (take l.i (drop (7 * l.number) (vec_items l.self.entries)));
}
