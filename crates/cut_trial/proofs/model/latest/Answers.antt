use Rattle.std.proofs.Common.{Some, None, rules, tests}
use Rattle.std.proofs.lemmas.Iterator.Search.{find_from_yields_List}
use Rattle.std.proofs.lemmas.Iterator.Adapters.{YieldsList-from_rev_slice}
use Rattle.cut_trial.proofs.Writes.{is_to, latest_is}
use Rattle.cut_trial.proofs.model.latest.Goals as goal

pub returns-in-Some : goal.returns-in-Some
returns-in-Some c =
    let ws = c.args.writes.now in
    let at = c.args.at.0 in
    latest_is ws at c.args.before c.find.result (Some c.in-Some.w) (search rules)
    (find_from_yields_List (is_to at) _ _ c.find.result c.find.ensures.ran (YieldsList-from_rev_slice ws (search rules)) (λ x b q k. search (rules, tests)))

pub returns-in-None : goal.returns-in-None
returns-in-None c =
    let ws = c.args.writes.now in
    let at = c.args.at.0 in
    latest_is ws at c.args.before c.find.result None (search rules)
    (find_from_yields_List (is_to at) _ _ c.find.result c.find.ensures.ran (YieldsList-from_rev_slice ws (search rules)) (λ x b q k. search (rules, tests)))
