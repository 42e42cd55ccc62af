use Rattle.std.proofs.Common.{◌≡◌, drop}
use Rattle.pieces.specs.Kept.{the_kept}
use Rattle.pieces.specs.Replaces.{fills_all}
use Rattle.pieces.specs.Replacing.{the_blocks}
use Rattle.pieces.proofs.Replacing.{Left}
use Rattle.pieces.proofs.state.Pieces.fill_all.Given as goal

abbrev pub invariant-loop-block : goal.invariant-loop-block
invariant-loop-block l = record {
  kept : Left (fills_all (the_blocks l.blocks)) (fills_all (drop l.block-index (the_blocks l.blocks))) (the_kept l.initial.self) l.initial.replaced (the_kept l.self) l.replaced;
  layout : l.self.layout ≡ l.initial.self.layout;
}
