use Rattle.std.proofs.Common.{◌≡◌, ℕ, ◌-◌, subst, arith}
use Rattle.std.proofs.lemmas.Result.{err_from_is_err_and}
use Rattle.copies.specs.Views.{the_session, the_sessions}
use Rattle.packets.specs.Codecs.{many_at}
use Rattle.packets.specs.Formats.{session}
use Rattle.packets.specs.Seen.{table}
use Rattle.packets.proofs.Loops.{with_front, front_nil, goes_on, ends, is_done}
use Rattle.packets.proofs.Tables.{sessions_on}
use Rattle.packets.proofs.sessions.take_each.Goals as goal

pub returns-in_err-session : goal.returns-in_err-session
returns-in_err-session c =
    let p = err_from_is_err_and c.from_residual-in_err-session.result c.from_residual-in_err-session.ensures.1 in
    rw (p.1, p.2) (ends session c.in_err-session.field-0.0 (table c.loop-house.house (the_sessions c.loop-house.sessions)) 49 c.loop-house.house c.loop-house.rest.now (many_at session 49 c.args.bytes.now) c.loop-house-test.true c.in_err-session.ensures c.loop-house.invariant)

pub loop-house-init : goal.loop-house-init
unfolding table
loop-house-init c = front_nil (many_at session 49 c.args.bytes.now)

pub loop-house-preserved : goal.loop-house-preserved
loop-house-preserved c =
    let e = sessions_on c.loop-house.house (the_session c.in_ok-session.session) (the_sessions c.loop-house.sessions) (the_sessions c.put.new.self) c.loop-house-test.true c.put.ensures in
    rw e (goes_on session (table c.loop-house.house (the_sessions c.loop-house.sessions)) 49 c.loop-house.house c.loop-house.rest.now (the_session c.in_ok-session.session) c.in_ok-session.after.now (many_at session 49 c.args.bytes.now) c.loop-house-test.true c.in_ok-session.ensures c.loop-house.invariant)

pub returns : goal.returns
returns c =
    let is : c.loop-house.house ≡ 49 = omega arith in
    let f = the_sessions c.loop-house.sessions in
    is_done session (table 49 f) 49 49 c.loop-house.rest.now (many_at session 49 c.args.bytes.now) (omega arith) (subst (λ (n : ℕ). with_front (table n f) (many_at session (49 - n) c.loop-house.rest.now) ≡ many_at session 49 c.args.bytes.now) is c.loop-house.invariant)
