-- Why a house stops: want of memory counts as the power failing, all else is told.
-- Assumes nothing.
use Rattle.std.specs.Prelude.{◌≡◌, ◌≢◌}
use Rattle.device.specs.Does.{Act, broke}
use Rattle.journal.specs.declared.state.Refused.{Refused as Refusal}
use Rattle.device.specs.declared.disk.Failed.{Failed}
use Rattle.device.specs.declared.disk.Failed.TheVariants.{Disk, Refused}
use Rattle.houses.specs.declared.house.Stopped.{Stopped}
use Rattle.houses.specs.declared.house.Stopped.TheVariants.{NoMemory, Broken}

unfoldable pub GivesUp : {S : Type 0} → (S → Act → S → Type 0) → S → Stopped → Failed Stopped → S → Type 0
GivesUp did s e (Disk f) t = (e ≡ NoMemory) × did s broke t
GivesUp did s e (Refused r) t = (e ≢ NoMemory) × (r ≡ e) × (t ≡ s)

-- the journal refused what a house stores
abbrev pub broken : Failed Refusal → Failed Stopped
broken (Disk f) = Disk f
broken (Refused r) = Refused Broken
