use Rattle.std.proofs.Common.{◌==◌, rules}
use borrow.Author.Tests.{tests}
use Rattle.std.proofs.lemmas.Iterator.{YieldsList-from_slice}
use Rattle.std.proofs.lemmas.Iterator.Search.{any_from_yields_List}
use Rattle.journal.specs.declared.state.Write.{Write}
use Rattle.journal.specs.Programs.{named}
use Rattle.journal.proofs.state.is_written.Goals as goal

pub returns : goal.returns
unfolding named
returns c = any_from_yields_List (λ (w : Write). c.args.at.0 == w.target.0) _ _ _ c.any.ensures.ran (YieldsList-from_slice c.args.writes.now cc) (λ x b q k. search (rules, tests))
