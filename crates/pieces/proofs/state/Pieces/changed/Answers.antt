use Rattle.std.proofs.Common.{◌+◌, ◌-◌, sym, ◌∙◌, arith, vec_items}
use Rattle.pieces.proofs.ListMeaning.{list_means}
use Rattle.pieces.proofs.ListEnding.{list_ends}
use Rattle.pieces.proofs.Listing.{along_more, along_end, along_all}
use Rattle.pieces.proofs.state.Pieces.changed.Goals as goal

pub loop-i-preserved : goal.loop-i-preserved
loop-i-preserved c =
    along_more _ (vec_items c.loop-i.blocks) _ _ _ c.args.since c.loop-i.at c.key_behind-at.result (vec_items c.args.self.now.entries) c.in-Some.entry c.loop-i.invariant (omega arith) (sym c.nearest.ensures ∙ c.in-Some.is) (c.in_ok-push-in-Some.ensures {u = tt}).items c.key_behind-at.ensures

pub returns-in-None : goal.returns-in-None
returns-in-None c = record { means = list_means; ends = list_ends; listed = along_end _ _ _ (c.args.most - (c.loop-i.i + 1)) c.args.since c.loop-i.at (vec_items c.args.self.now.entries) c.loop-i.invariant (omega arith) (sym c.nearest.ensures ∙ c.in-None.is) }

pub returns : goal.returns
returns c = record { means = list_means; ends = list_ends; listed = along_all _ _ (c.args.most - c.loop-i.i) c.args.since c.loop-i.at (vec_items c.args.self.now.entries) c.loop-i.invariant (omega arith) }
