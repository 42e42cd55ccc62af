use Rattle.std.proofs.Common.{rules, refl, ap, ◌∙◌}
use Rattle.pieces.specs.Kept.{the_kept}
use Rattle.store.specs.Stores.{places_of_bundle, places_of_command}
use Rattle.store.proofs.Gathering.{gather_more, gather_end}
use Rattle.store.proofs.Needing.{bundles_cons, bundles_none}
use Rattle.store.proofs.store.Store.places_for.Goals as goal

pub loop-bundle-preserved : goal.loop-bundle-preserved
loop-bundle-preserved c =
    let k = the_kept c.args.self.now.pieces in
    gather_more (places_of_command k) (places_of_bundle k) (bundles_none k) (bundles_cons k) c.deref-bundle-items.result.now c.loop-bundle.bundle-index _ c.bundle-item.result c.loop-bundle.places.items c.push_places.new.places.items _ (search rules) c.bundle-item.is c.in_ok-push_places.ensures
    c.loop-bundle.invariant

pub returns : goal.returns
returns c =
    let k = the_kept c.args.self.now.pieces in
    gather_end (places_of_command k) (places_of_bundle k) (bundles_none k) (bundles_cons k) c.deref-bundle-items.result.now c.loop-bundle.bundle-index c.loop-bundle.places.items _ (search rules) c.loop-bundle.invariant
    ∙ ap (places_of_command k) c.deref-bundle-items.ensures.value
