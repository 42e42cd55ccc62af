use Rattle.std.proofs.Common.{◌≡◌, map, drop}
use Rattle.store.specs.Parts.{AreKeys, key_number, ordered, the_stamped}
use Rattle.store.proofs.taking.is_in_order.Given as goal

abbrev pub invariant-loop-stamped : goal.invariant-loop-stamped
invariant-loop-stamped l = AreKeys l.blocks → ordered l.least (key_number l.next) (map the_stamped (drop l.stamped-index l.blocks)) ≡ ordered l.fn.from.0 (key_number l.next) (map the_stamped l.blocks)
