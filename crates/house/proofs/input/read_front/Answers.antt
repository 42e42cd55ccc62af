use Rattle.std.proofs.Common.{rules, arith}
use Rattle.house.proofs.Pieces.{failed_with, kept_within, front_done, front_stops, all_more, taken_more}
use Rattle.house.proofs.input.read_front.Goals as goal

pub returns-in_err-add_part-clause-failed : goal.returns-in_err-add_part-clause-failed
returns-in_err-add_part-clause-failed g c =
    failed_with c.from_residual.result _ (kept_within _ _ _ _ c.loop.invariant.open_still c.loop.invariant.taken c.in_err-add_part.ensures.kept)

pub returns-then-not-branch-clause-front : goal.returns-then-not-branch-clause-front
returns-then-not-branch-clause-front g c =
    front_done _ (g.R.Read.remaining c.loop.input) _ c.loop.line.items c.add_part.new.line.items _ (search rules) c.loop.invariant.open_still c.loop.invariant.taken c.add_part.ensures.appends c.in_ok-add_part.ensures.taken c.add_part.ensures.stops (omega arith) (omega (arith, c.add_part.ensures.bound c.loop.invariant.short)) (c.add_part.ensures.ends (search rules))

pub returns-then-not-branch-clause-stops : goal.returns-then-not-branch-clause-stops
returns-then-not-branch-clause-stops g c = front_stops c.loop.line.items c.add_part.new.line.items c.loop.invariant.open_still c.add_part.ensures.appends c.add_part.ensures.stops

pub loop-preserved : goal.loop-preserved
loop-preserved g c = record {
  short = c.add_part.ensures.bound c.loop.invariant.short;
  open_still = all_more c.loop.line.items c.add_part.new.line.items c.loop.invariant.open_still c.add_part.ensures.appends (c.add_part.ensures.more (search rules));
  taken = taken_more _ _ _ c.loop.line.items c.add_part.new.line.items c.loop.invariant.taken c.add_part.ensures.appends c.in_ok-add_part.ensures.taken;
}
