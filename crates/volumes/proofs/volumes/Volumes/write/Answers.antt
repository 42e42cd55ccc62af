use Rattle.std.proofs.Common.{rules, subst, sym, ◌≤◌, ℕ, ◌-◌, ◌+◌, arith}
use Rattle.volumes.proofs.Weighing.{counted_put, recount_fits, found_weighs}
use Rattle.volumes.proofs.volumes.Volumes.write.Goals as goal

pub invariant_of-self-clause-counted : goal.invariant_of-self-clause-counted
invariant_of-self-clause-counted c = counted_put _ (search rules) c.in_ok-at.ensures.first (search rules) _

pub invariant_of-self-clause-within : goal.invariant_of-self-clause-within
invariant_of-self-clause-within c =
    let held = found_weighs {ys = c.args.self.now.heads.items} c.args.self.now.weight (search rules) c.in_ok-at.ensures.first (search rules) in
    subst (λ (n : ℕ). c.args.self.now.weight - c.in_ok-at.head.used + n ≤ c.args.self.now.room) (sym c.recounted-used.ensures) (recount_fits c.is_blank-was.result c.is_blank-now.result c.in_ok-at.head.used c.args.self.now.weight c.args.self.now.room (omega (arith, held)) (search rules) (search rules))
