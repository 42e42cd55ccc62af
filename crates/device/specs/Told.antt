-- What a call told, with what it left in memory.
use Rattle.std.specs.Prelude.{Ok, Err, Result}
use Rattle.journal.specs.Programs.{Outcome, Put'}
use Rattle.journal.specs.declared.state.Journal.{Journal}
use Rattle.device.specs.declared.disk.Fault.{Fault}
use Rattle.device.specs.declared.disk.Failed.{Failed}
use Rattle.device.specs.declared.disk.Failed.TheVariants.{Disk, Refused}

-- what the program came to, a refusal too, or the disk's fault
abbrev pub told : {A E : Type 0} → Result A (Failed E) → Result (Result A E) Fault
told (Ok a) = Ok (Ok a)
told (Err (Disk e)) = Err e
told (Err (Refused e)) = Ok (Err e)

-- a put's outcome and the journal that it left
abbrev pub leaving : {E : Type 0} → Result Outcome E → Journal → Result Put' E
leaving (Ok o) j = Ok (record { outcome = o; journal = j })
leaving (Err e) j = Err e
