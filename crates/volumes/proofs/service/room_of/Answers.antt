use Rattle.std.proofs.Common.{rules}
use Rattle.volumes.proofs.Room.{room_is_core}
use Rattle.volumes.proofs.service.room_of.Goals as goal

pub returns : goal.returns
returns c = search (rules, room_is_core)
