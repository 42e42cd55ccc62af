use Rattle.std.proofs.Common.{◌≡◌, take}
use Rattle.copies.specs.Runs.{ran, command_run}
use Rattle.copies.specs.Views.{the_bundles, the_sessions}
use Rattle.copies.proofs.run.applies.Given as goal

abbrev pub invariant-loop-bundle : goal.invariant-loop-bundle
invariant-loop-bundle g l =
    ran (the_sessions l.sessions) (g.S.Service.state l.service) ≡ command_run g.S.Service.reply g.S.Service.next (the_bundles (take l.bundle-index l.command.0.items)) (ran (the_sessions l.initial.sessions) (g.S.Service.state l.initial.service))
