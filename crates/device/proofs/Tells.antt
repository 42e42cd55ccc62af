-- What a call told, with what it left in memory, where the disk failed in the midst.
use Rattle.std.proofs.Common.{◌≡◌, Err, Result, refl}
use Rattle.disks.specs.Device.{Io}
use Rattle.journal.specs.Programs.{Put'}
use Rattle.journal.specs.declared.state.Journal.{Journal}
use Rattle.journal.specs.declared.state.Refused.{Refused}
use Rattle.device.specs.declared.disk.Fault.{Fault}
use Rattle.device.specs.declared.disk.Failed.{Failed}
use Rattle.device.specs.declared.disk.Failed.TheVariants.{Disk}
use Rattle.device.specs.Does.{Act, Does, Cut}
use Rattle.device.specs.Told.{told, leaving}
use Rattle.device.proofs.Steps.{failed}

pub told_fault : {S A E : Type 0} {did : S → Act → S → Type 0} {p : Io (Result A E)} {x : Failed E} {e : Fault} {s t : S} → x ≡ Disk e → Cut did p s t → Does did p s (told (Err x)) t
told_fault q i = rw q (failed refl i)

pub left_fault : {S : Type 0} {did : S → Act → S → Type 0} {p : Io Put'} {x : Failed Refused} {e : Fault} (j : Journal) {s t : S} → x ≡ Disk e → Cut did p s t → Does did p s (leaving (told {A = Unit {0}} (Err x)) j) t
left_fault j q i = rw q (failed refl i)

pub ruleset tells = (told_fault, left_fault)
