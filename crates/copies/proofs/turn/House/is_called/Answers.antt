use Rattle.std.proofs.Common.{ap, ◌∙◌}
use Rattle.copies.specs.Copy.{Turn, queued, pack, forward}
use Rattle.copies.specs.Steps.{marks}
use Rattle.copies.specs.Events.{begun}
use Rattle.copies.specs.Views.{the_turn}
use Rattle.copies.proofs.Told.{told_call, kept_of}
use Rattle.copies.proofs.turn.House.is_called.Goals as goal

pub returns-clause-kept : goal.returns-clause-kept
returns-clause-kept g c =
    let called = λ (t : Turn g.row.X.Denot g.row.B.Denot g.row.C.Denot g.row.A.Denot). forward (pack (queued c.args.id.0 c.args.call t)) in
    let is = c.noting.ensures.value ∙ c.in_ok-turn.ensures ∙ ap forward c.in_ok-pack.ensures ∙ ap (λ (t : Turn g.row.X.Denot g.row.B.Denot g.row.C.Denot g.row.A.Denot). forward (pack t)) c.in_ok-queued.ensures.value ∙ ap called c.begins.ensures.value in
    let kept = kept_of (begun c.args.self) (the_turn c.noting.result) (called (begun c.args.self)) (told_call c.args.id.0 c.args.call (begun c.args.self)) is in
    (λ e. kept.1 (ap (λ (t : Turn g.row.X.Denot g.row.B.Denot g.row.C.Denot g.row.A.Denot). marks t.agreeing) c.noting.ensures.value ∙ (c.noting.ensures.agreeing e).1 ∙ c.marks-before.ensures), λ e. kept.0)
