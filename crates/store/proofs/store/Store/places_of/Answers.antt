use Rattle.std.proofs.Common.{rules, refl, ap, ◌∙◌}
use Rattle.store.specs.Parts.{places_with, places_of}
use Rattle.store.proofs.Gathering.{gather_more, gather_end}
use Rattle.store.proofs.Giving.{places_of_cons, places_of_none}
use Rattle.store.proofs.store.Store.places_of.Goals as goal

pub loop-entry-preserved : goal.loop-entry-preserved
loop-entry-preserved c =
    gather_more places_of places_with places_of_none places_of_cons c.deref-entry-items.result.now c.loop-entry.entry-index _ _ c.loop-entry.places.items c.push_places.new.places.items _ (search rules) refl c.in_ok-push_places.ensures c.loop-entry.invariant

pub returns : goal.returns
returns c =
    gather_end places_of places_with places_of_none places_of_cons c.deref-entry-items.result.now c.loop-entry.entry-index c.loop-entry.places.items _ (search rules) c.loop-entry.invariant ∙ ap places_of c.deref-entry-items.ensures.value
