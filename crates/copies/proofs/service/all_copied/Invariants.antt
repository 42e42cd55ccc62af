use Rattle.std.proofs.Common.{◌≡◌, take}
use Rattle.copies.proofs.service.all_copied.Given as goal

abbrev pub invariant-loop-item : goal.invariant-loop-item
invariant-loop-item g l = l.all.items ≡ take l.item-index l.items
