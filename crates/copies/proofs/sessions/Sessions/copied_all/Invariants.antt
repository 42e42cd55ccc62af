use Rattle.std.proofs.Common.{◌≡◌, take, length, map}
use Rattle.copies.specs.Views.{the_session}
use Rattle.copies.proofs.sessions.Sessions.copied_all.Given as goal

abbrev pub invariant-loop-session : goal.invariant-loop-session
invariant-loop-session g l = (length l.each.items ≡ l.session-index) × (map the_session l.each.items ≡ map the_session (take l.session-index l.self.each.items))
