use Rattle.std.proofs.Common.{arith}
use Rattle.copies.proofs.Alike.{alike_taken}
use Rattle.copies.proofs.sessions.Sessions.copied_all.Goals as goal

pub returns : goal.returns
returns g c = alike_taken c.loop-session.session-index _ _ (omega (arith, c.loop-session-test.false, c.deref-session-items.ensures.len)) c.loop-session.invariant.1
