-- The worked cases, by computing.
use Rattle.std.specs.Prelude.{refl}
use Rattle.disks.specs.Device.{latest, all_bytes}
use Rattle.disks.specs.Disks.{find, change, keep, attaches, holding, copies, does}
use Rattle.disks.specs.Worked.{WorkedCases, CopySynced, replies, leaves}

pub worked_cases : WorkedCases
unfolding replies does find change keep attaches holding copies latest all_bytes
worked_cases = refl

pub copy_synced : CopySynced
unfolding leaves does find change keep attaches holding copies latest all_bytes
copy_synced n = refl
