use Rattle.std.proofs.Common.{rules}
use borrow.Author.Tests.{tests}
use Rattle.std.proofs.lemmas.Iterator.{YieldsList-from_slice}
use Rattle.std.proofs.lemmas.Iterator.Search.{all_from_yields_List}
use Rattle.journal.specs.declared.state.Write.{Write}
use Rattle.journal.specs.Programs.{in_area, all_in_area}
use Rattle.journal.proofs.state.are_guarded.Goals as goal

pub returns : goal.returns
unfolding all_in_area
returns c = all_from_yields_List (λ (w : Write). in_area c.args.size w.target.0) _ _ _ c.all.ensures.ran (YieldsList-from_slice c.args.writes.now cc) (λ x b q k. search (rules, tests))
