-- A statement that lies above Type 0, which a contract can't hold, as a type that can: that there is this proof of it.
use Rattle.composed.specs.Held.{Shown}
use Rattle.keeping.specs.Keeper.{KeeperKeeps}
use Rattle.keeping.proofs.Keeper.{keeper_keeps}

-- the keeper of the volumes' blocks meets the laws
abbrev pub BlocksKept : Type 0
BlocksKept = Shown {A = KeeperKeeps} keeper_keeps
