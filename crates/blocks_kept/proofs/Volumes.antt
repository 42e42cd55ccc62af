-- The theorems on copies hold of the volumes, since these are a lawful service, and the keeper of their blocks meets the laws.
use Rattle.std.proofs.Common.{ℕ, List, subst, arith}
use Rattle.compose.specs.Pure.{PureAnswersWithin}
use Rattle.copies.specs.House.{replicated}
use Rattle.copies.specs.Admits.{admits}
use Rattle.copies.specs.Promise.{steps_for}
use Rattle.replicated.proofs.Events.{as_one}
use Rattle.replicated.proofs.AnsweredWithin.{answers_within}
use Rattle.volumes.specs.Simulation.{room_left}
use Rattle.served.specs.Served.{volume_service}
use Rattle.served.proofs.Lawful.{lawful}
use Rattle.keeping.specs.Keeper.{keeper}
use Rattle.keeping.proofs.Keeper.{room_fits, keeper_keeps}
use Rattle.blocks_kept.specs.Volumes.{VolumesAsOne, VolumesAnswer}

pub volumes_as_one : VolumesAsOne
volumes_as_one size least stays ok = as_one (List ℕ) (List ℕ) (volume_service (room_left size)) (keeper size (room_left size) stays) ok (lawful (room_left size)) (keeper_keeps size (room_left size) stays (room_fits size least)).0

pub volumes_answer : VolumesAnswer
volumes_answer size least most stays =
    let k = keeper_keeps size (room_left size) stays (room_fits size least) in
    subst (λ (n : ℕ). PureAnswersWithin 72057594037927936 (steps_for n) (replicated (volume_service (room_left size)) (keeper size (room_left size) stays) (admits (volume_service (room_left size)) (keeper size (room_left size) stays)))) k.1
    (answers_within (List ℕ) (List ℕ) (volume_service (room_left size)) (keeper size (room_left size) stays) (lawful (room_left size)) k.0 (omega (arith, k.1, most)))
