use Rattle.std.proofs.Common.{◌≡◌, take}
use Rattle.copies.specs.Copy.{undone}
use Rattle.copies.specs.Views.{the_bundles, the_sessions}
use Rattle.copies.proofs.turn.House.undone.Given as goal

abbrev pub invariant-loop-bundle : goal.invariant-loop-bundle
invariant-loop-bundle g l = the_bundles l.bundles.items ≡ undone (the_bundles (take l.bundle-index l.self.memory.heard.items)) (the_sessions l.self.sessions)
