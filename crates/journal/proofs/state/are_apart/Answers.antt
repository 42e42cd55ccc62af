use Rattle.std.proofs.Common.{refl, ◌∙◌, rules}
use borrow.Author.Tests.{tests}
use Rattle.std.proofs.lemmas.List.{take_rest}
use Rattle.std.proofs.lemmas.Iterator.{YieldsList-from_slice}
use Rattle.std.proofs.lemmas.Iterator.Consumers.{YieldsList-from_enumerate}
use Rattle.std.proofs.lemmas.Iterator.Search.{all_from_yields_List}
use Rattle.journal.proofs.Writes.{is_last, all_last}
use Rattle.journal.proofs.state.are_apart.Goals as goal

pub returns : goal.returns
returns c =
    all_from_yields_List (is_last c.args.writes.now) _ _ _ c.all.ensures.ran (YieldsList-from_enumerate (YieldsList-from_slice c.args.writes.now cc) cc) (λ x b q k. search (rules, tests, take_rest))
    ∙ all_last c.args.writes.now c.args.writes.now 0 refl
