use Rattle.std.proofs.Common.{rules, refl, ap, ◌∙◌, ◌++◌}
use Rattle.pieces.specs.Kept.{the_kept}
use Rattle.store.specs.Stores.{place_of_item, places_of_items, places_of_bundle}
use Rattle.store.proofs.Gathering.{gather_more, gather_end}
use Rattle.store.proofs.Needing.{items_cons, items_none}
use Rattle.store.proofs.store.Store.push_places.Goals as goal

pub loop-item-preserved : goal.loop-item-preserved
loop-item-preserved c =
    let k = the_kept c.args.self.now.pieces in
    gather_more (places_of_items k) (place_of_item k) (items_none k) (items_cons k) c.deref-item-items.result.now c.loop-item.item-index _ c.item-item.result c.loop-item.places.items c.push_place.new.places.items _ (search rules) c.item-item.is c.in_ok-push_place.ensures c.loop-item.invariant

pub returns : goal.returns
unfolding places_of_bundle
returns c =
    let k = the_kept c.args.self.now.pieces in
    gather_end (places_of_items k) (place_of_item k) (items_none k) (items_cons k) c.deref-item-items.result.now c.loop-item.item-index c.loop-item.places.items _ (search rules) c.loop-item.invariant
    ∙ ap (λ x. c.args.places.now.items ++ places_of_items k x) c.deref-item-items.ensures.value
