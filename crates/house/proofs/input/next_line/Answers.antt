use Rattle.std.proofs.Common.{rules, ◌≢◌, List, ℕ, All, sym, subst, arith}
use Rattle.house.proofs.Pieces.{stripped, passed_over, front_none, front_short, front_long}
use Rattle.house.proofs.input.next_line.Goals as goal

pub returns-in-Err-clause-rest : goal.returns-in-Err-clause-rest
returns-in-Err-clause-rest g c =
    let (bs, all, taken) = c.in-Err.ensures.failed in
    passed_over _ (g.R.Read.remaining c.read_front.new.input) _ bs all taken c.in_ok-pass_over-in-Err.ensures

pub returns-then-is_empty-clause-read : goal.returns-then-is_empty-clause-read
returns-then-is_empty-clause-read g c = (front_none _ _ _ c.in-Ok.ensures.front (search rules)).0

pub returns-then-is_empty-clause-rest : goal.returns-then-is_empty-clause-rest
returns-then-is_empty-clause-rest g c = (front_none _ _ _ c.in-Ok.ensures.front (search rules)).1

pub returns-then-len-gt-MAX_LINE-clause-read : goal.returns-then-len-gt-MAX_LINE-clause-read
returns-then-len-gt-MAX_LINE-clause-read g c = (front_long _ _ _ c.in-Ok.line.items c.strip_end.new.line.items c.in-Ok.ensures.front c.strip_end.ensures (omega arith) c.in_ok-pass_over.ensures).0

pub returns-then-len-gt-MAX_LINE-clause-rest : goal.returns-then-len-gt-MAX_LINE-clause-rest
returns-then-len-gt-MAX_LINE-clause-rest g c = (front_long _ _ _ c.in-Ok.line.items c.strip_end.new.line.items c.in-Ok.ensures.front c.strip_end.ensures (omega arith) c.in_ok-pass_over.ensures).1

pub returns-clause-one : goal.returns-clause-one
returns-clause-one g c = subst (All (λ b. b ≢ 10)) (sym {A = List ℕ} c.strip_end.ensures) (stripped _ c.in-Ok.ensures.stops)

pub returns-clause-read : goal.returns-clause-read
returns-clause-read g c = (front_short _ _ c.in-Ok.line.items c.strip_end.new.line.items c.in-Ok.ensures.front c.strip_end.ensures (omega arith)).0

pub returns-clause-rest : goal.returns-clause-rest
returns-clause-rest g c = (front_short _ _ c.in-Ok.line.items c.strip_end.new.line.items c.in-Ok.ensures.front c.strip_end.ensures (omega arith)).1
