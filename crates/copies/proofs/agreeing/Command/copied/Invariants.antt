use Rattle.std.proofs.Common.{◌≡◌, take}
use Rattle.copies.specs.Views.{the_bundles}
use Rattle.copies.proofs.agreeing.Command.copied.Given as goal

abbrev pub invariant-loop-bundle : goal.invariant-loop-bundle
invariant-loop-bundle g l = the_bundles l.bundles.items ≡ the_bundles (take l.bundle-index l.self.0.items)
