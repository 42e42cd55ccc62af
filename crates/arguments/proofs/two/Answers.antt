use Rattle.std.proofs.Common.{rules, ◌≡◌, None, inl, inr}
use Rattle.arguments.proofs.Parsed.{fails, gives}
use Rattle.arguments.proofs.two.Goals as goal

pub returns-in_err-second : goal.returns-in_err-second
returns-in_err-second g c =
    let none : c.from_residual-in_err-second.result ≡ None = search rules in
    rw none (inr (c.in_ok-first.first, c.next.new.self, c.in_ok-first.ensures.steps, inl c.in_err-second.ensures.steps))

pub returns-in_err-ok : goal.returns-in_err-ok
returns-in_err-ok g c =
    let none : c.from_residual-in_err-ok.result ≡ None = search rules in
    let failed = fails g.A.FromStr.from_str_gives _ _ c.parse.result c.deref.ensures c.parse.ensures.value (search rules) in
    rw none (inr (c.in_ok-first.first, c.next.new.self, c.in_ok-first.ensures.steps, inr (c.in_ok-second.second, c.in_ok-second.ensures.steps, inl failed)))

pub returns-in_err-ok-2 : goal.returns-in_err-ok-2
returns-in_err-ok-2 g c =
    let none : c.from_residual-in_err-ok-2.result ≡ None = search rules in
    let failed = fails g.B.FromStr.from_str_gives _ _ c.parse-2.result c.deref-2.ensures c.parse-2.ensures.value (search rules) in
    rw none (inr (c.in_ok-first.first, c.next.new.self, c.in_ok-first.ensures.steps, inr (c.in_ok-second.second, c.in_ok-second.ensures.steps, inr failed)))

pub returns : goal.returns
returns g c =
    let a = gives g.A.FromStr.from_str_gives _ _ c.parse.result c.in_ok-ok.field-0 c.deref.ensures c.parse.ensures.value (search rules) in
    let b = gives g.B.FromStr.from_str_gives _ _ c.parse-2.result c.in_ok-ok-2.field-0 c.deref-2.ensures c.parse-2.ensures.value (search rules) in
    (c.in_ok-first.first, c.in_ok-second.second, c.next.new.self, c.in_ok-first.ensures.steps, c.in_ok-second.ensures.steps, a, b)
