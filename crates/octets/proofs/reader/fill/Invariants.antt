use Rattle.std.proofs.Common.{◌≡◌, ◌*◌, take}
use Rattle.octets.specs.Numbers.{fields, Behind}
use Rattle.octets.proofs.reader.fill.Given as goal

abbrev pub invariant-loop-slot : goal.invariant-loop-slot
invariant-loop-slot l = record {
  read : take l.slot-index l.out ≡ fields l.slot-index l.bytes;
  behind : Behind (8 * l.slot-index) l.bytes l.rest;
}
