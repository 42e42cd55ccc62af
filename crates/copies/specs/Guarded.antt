-- That houses which admit only what fits them answer, too.
-- Assumes nothing.
use Rattle.std.specs.Prelude.{◌<◌}
use Rattle.compose.specs.Pure.{PureAnswersWithin}
use Rattle.copies.specs.Service.{Service, Keeper, Lawful, Keeps}
use Rattle.copies.specs.House.{replicated}
use Rattle.copies.specs.Admits.{admits}
use Rattle.copies.specs.Promise.{steps_for}

-- With any one house out, all calls that wait at the others can be answered, from all that comes to be in fewer than 2^56 steps: until then,
-- and for as many steps as answering takes, every event that happens is admitted.
abbrev pub ReplicatedAnswersWithin : Type 1
ReplicatedAnswersWithin =
    (O R : Type 0) (sv : Service O R) (kp : Keeper sv) → Lawful sv → (keeps : Keeps sv kp) → steps_for keeps.most < 72057594037927936 → PureAnswersWithin 72057594037927936 (steps_for keeps.most) (replicated sv kp (admits sv kp))
