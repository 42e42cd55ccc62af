use Rattle.pieces.proofs.Replacing.{begun}
use Rattle.pieces.proofs.state.Pieces.begin.Goals as goal

pub returns-else-taking-clause-kept : goal.returns-else-taking-clause-kept
returns-else-taking-clause-kept c = begun c.args.range.from c.args.range.next c.args.taking.whole c.args.taking.most _ _ c.if-taking.false c.new-else-taking.ensures.items
