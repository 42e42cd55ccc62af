use Rattle.std.proofs.Common.{◌≡◌, drop, vec_items}
use Rattle.pieces.specs.Kept.{the_kept}
use Rattle.pieces.specs.Replaces.{fills, fills_slots}
use Rattle.pieces.specs.Replacing.{the_filled}
use Rattle.pieces.proofs.Replacing.{Left}
use Rattle.pieces.proofs.state.Pieces.fill.Given as goal

abbrev pub invariant-loop-slot : goal.invariant-loop-slot
invariant-loop-slot l = record {
  kept : Left (fills (the_filled l.block)) (fills_slots l.block.volume.0 l.block.block.0 l.block.stamp.0 l.slot (drop l.slot (vec_items l.block.sectors))) (the_kept l.initial.self) l.initial.replaced (the_kept l.self) l.replaced;
  layout : l.self.layout ≡ l.initial.self.layout;
}
