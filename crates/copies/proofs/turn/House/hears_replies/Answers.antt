use Rattle.std.proofs.Common.{ap, ◌∙◌}
use Rattle.copies.specs.Copy.{Turn, settle, pack, forward}
use Rattle.copies.specs.Steps.{marks}
use Rattle.copies.specs.Events.{begun}
use Rattle.copies.specs.Views.{the_session, the_turn}
use Rattle.copies.proofs.Told.{told_replies, kept_of}
use Rattle.copies.proofs.turn.House.hears_replies.Goals as goal

pub returns-clause-kept : goal.returns-clause-kept
returns-clause-kept g c =
    let settles = λ (t : Turn g.row.X.Denot g.row.B.Denot g.row.C.Denot g.row.A.Denot). forward (pack (settle (the_session c.args.session) t.memory.way t)) in
    let is = c.noting.ensures.value ∙ c.in_ok-turn.ensures ∙ ap forward c.in_ok-pack.ensures ∙ ap (λ (t : Turn g.row.X.Denot g.row.B.Denot g.row.C.Denot g.row.A.Denot). forward (pack t)) c.settle.ensures.value ∙ ap settles c.begins.ensures.value in
    let kept = kept_of (begun c.args.self) (the_turn c.noting.result) (settles (begun c.args.self)) (told_replies (the_session c.args.session) (begun c.args.self)) is in
    (λ e. kept.1 (ap (λ (t : Turn g.row.X.Denot g.row.B.Denot g.row.C.Denot g.row.A.Denot). marks t.agreeing) c.noting.ensures.value ∙ (c.noting.ensures.agreeing e).1 ∙ c.marks-before.ensures), λ e. kept.0)
