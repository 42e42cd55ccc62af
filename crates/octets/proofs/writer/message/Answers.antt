use Rattle.std.proofs.Common.{ℕ, List, length, ap, arith, rules}
use Rattle.std.proofs.lemmas.List.{take_all}
use Rattle.octets.specs.Numbers.{numbers_bytes}
use Rattle.octets.proofs.Fields.{length-numbers}
use Rattle.octets.proofs.Numbers.{message_more}
use Rattle.octets.proofs.writer.message.Goals as goal

pub loop-n-preserved : goal.loop-n-preserved
loop-n-preserved c = message_more c.args.first c.args.numbers.now c.loop-n.n-index _ _ c.loop-n-test.true c.loop-n.invariant c.in_ok-put.ensures

pub returns-clause-bytes : goal.returns-clause-bytes
returns-clause-bytes c = search (rules, take_all)

pub returns-clause-len : goal.returns-clause-len
returns-clause-len c =
    let numbers = c.args.numbers.now in
    let all = take_all c.loop-n.n-index numbers c.loop-n-test.false in
    let long = length-numbers numbers in
    omega (arith, ap length c.loop-n.invariant, ap (λ (ns : List ℕ). length (numbers_bytes ns)) all, long)
