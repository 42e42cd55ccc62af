use Rattle.std.proofs.Common.{rules}
use Rattle.std.proofs.lemmas.List.{take_rest}
use Rattle.lines.proofs.Steps.{cut_found, cut_none}
use Rattle.lines.proofs.line.cut.Goals as goal

pub returns : goal.returns
returns c =
    let found = cut_found c.args.text.now c.in_ok-i.i (search rules) (search rules) (search rules) in
    rw (found, take_rest)

pub returns-in_err-i : goal.returns-in_err-i
returns-in_err-i c = rw (cut_none c.args.text.now (search rules)) (search rules)
