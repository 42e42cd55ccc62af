use Rattle.std.proofs.Common.{length}
use Rattle.place_exports.proofs.play_all.Given as goal

abbrev pub decreases-loop-frame : goal.decreases-loop-frame
decreases-loop-frame l = length l.left
