use Rattle.std.proofs.Common.{◌≡◌, take}
use Rattle.copies.specs.Runs.{left, replied}
use Rattle.copies.specs.Views.{the_items, the_replies}
use Rattle.copies.proofs.run.replies_to.Given as goal

abbrev pub invariant-loop-item : goal.invariant-loop-item
invariant-loop-item g l =
    (the_replies l.replies.items ≡ replied g.S.Service.reply g.S.Service.next (the_items (take l.item-index l.calls)) (g.S.Service.state l.initial.service)) ×
    (g.S.Service.state l.service ≡ left g.S.Service.next (the_items (take l.item-index l.calls)) (g.S.Service.state l.initial.service))
