use Rattle.std.proofs.Common.{rules}
use Rattle.store.specs.Parts.{place_in, places_in, places_with}
use Rattle.store.proofs.Gathering.{gather_more, gather_end}
use Rattle.store.proofs.Giving.{places_in_cons, places_in_none}
use Rattle.store.proofs.parts.push_places.Goals as goal

pub loop-place-preserved : goal.loop-place-preserved
loop-place-preserved c =
    gather_more places_in place_in places_in_none places_in_cons c.args.entry.now.places c.loop-place.place-index 0 _ c.loop-place.places.items c.push_place.new.places.items _ (search rules) (search rules) c.in_ok-push_place.ensures
    c.loop-place.invariant

pub returns : goal.returns
unfolding places_with
returns c = gather_end places_in place_in places_in_none places_in_cons c.args.entry.now.places c.loop-place.place-index c.loop-place.places.items _ (search rules) c.loop-place.invariant
