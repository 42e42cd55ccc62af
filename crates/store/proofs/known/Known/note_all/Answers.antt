use Rattle.std.proofs.Common.{rules, ◌∙◌}
use Rattle.store.proofs.Noting.{noted_more, noted_end}
use Rattle.store.proofs.known.Known.note_all.Goals as goal

pub loop-i-preserved : goal.loop-i-preserved
loop-i-preserved c =
    (noted_more c.args.places.now c.args.sectors.now c.loop-i.i _ _ c.loop-i.self.read.items c.note.new.self.read.items _ (search rules) (search rules) c.in_ok-note.ensures.read c.loop-i.invariant.0, search rules)

pub returns-clause-read : goal.returns-clause-read
returns-clause-read c = noted_end c.args.places.now c.args.sectors.now c.loop-i.i c.loop-i.self.read.items _ (search rules) c.loop-i.invariant.0
