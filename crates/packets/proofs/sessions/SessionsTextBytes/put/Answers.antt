use Rattle.std.proofs.Common.{◌≡◌, ℕ, ◌++◌, T, ap, sym, ◌∙◌, subst, append-nil, arith, List}
use Rattle.std.specs.List.{flat_map, list_all}
use Rattle.std.proofs.lemmas.Result.{err_from_is_err_and}
use Rattle.octets.specs.Numbers.{bytes_of}
use Rattle.copies.specs.Views.{the_sessions}
use Rattle.packets.specs.Formats.{session}
use Rattle.packets.specs.Seen.{table}
use Rattle.packets.proofs.Tables.{each_spelled, each_fits, each_unfit, each_long}
use Rattle.packets.proofs.sessions.SessionsTextBytes.put.Goals as goal

pub returns-in_err-put_of : goal.returns-in_err-put_of
returns-in_err-put_of c =
    let p = err_from_is_err_and c.from_residual-in_err-put_of.result c.from_residual-in_err-put_of.ensures.1 in
    rw (p.1, p.2) (each_unfit session (the_sessions c.args.self.now) c.in_err-put_of.field-0.0 49 c.loop-house.house c.loop-house-test.true c.in_err-put_of.ensures)

pub loop-house-init : goal.loop-house-init
unfolding table
loop-house-init c =
    let e = c.in_ok-put.ensures in
    record { spelled = e.0 ∙ ap (λ (xs : List ℕ). c.args.out.now.items ++ xs) (sym (append-nil (bytes_of 1 49))); fits = tt }

pub loop-house-preserved : goal.loop-house-preserved
loop-house-preserved c =
    let e = c.in_ok-put_of.ensures in
    record {
      spelled = each_spelled session (the_sessions c.args.self.now) c.loop-house.house _ (bytes_of 1 49) _ _ c.loop-house.invariant.spelled e.0;
      fits = each_fits session (the_sessions c.args.self.now) c.loop-house.house c.loop-house.invariant.fits e.1;
    }

pub returns : goal.returns
returns c =
    let is : c.loop-house.house ≡ 49 = omega arith in
    let f = the_sessions c.args.self.now in
    (subst (λ (n : ℕ). c.loop-house.out.items ≡ c.args.out.now.items ++ (bytes_of 1 49 ++ flat_map session.bytes (table n f))) is c.loop-house.invariant.spelled, each_long session f 49 (subst (λ (n : ℕ). T (list_all session.fits (table n f))) is c.loop-house.invariant.fits))
