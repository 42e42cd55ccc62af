use Rattle.served.proofs.volumes_are_served.Goals as goal
use Rattle.served.proofs.Bounds.{room_bounds}
use Rattle.served.proofs.Lawful.{lawful, never_busy}
use Rattle.served.proofs.Meaning.{as_the_meaning, seen_as_the_meaning}
use Rattle.served.proofs.OnePlace.{as_one_place}
use Rattle.served.proofs.Replies.{replies_fit}

pub returns : goal.returns
returns c = record { lawful = lawful; never_busy = never_busy; replies = replies_fit; bounded = room_bounds; one_place = as_one_place; meaning = as_the_meaning; seen = seen_as_the_meaning }
