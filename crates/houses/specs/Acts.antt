-- What a house asks of its disk at an event.
-- Assumes nothing.
use Rattle.std.specs.Prelude.{◌≢◌, ℕ, [], List, Ok, Err, Result}
use Rattle.disks.specs.Device.{Io, answer, then'}
use Rattle.journal.specs.Programs.{Put'}
use Rattle.journal.specs.declared.state.Journal.{Journal}
use Rattle.journal.specs.declared.state.Write.{Write}
use Rattle.device.specs.Does.{Act, Does, Cut}
use Rattle.device.specs.declared.disk.Fault.{Fault}
use Rattle.device.specs.declared.disk.Failed.{Failed}
use Rattle.device.specs.declared.disk.Failed.TheVariants.{Disk, Refused}
use Rattle.houses.specs.declared.house.Stopped.{Stopped}
use Rattle.houses.specs.declared.house.Stopped.TheVariants.{NoMemory}
use Rattle.houses.specs.Gathers.{gathers}
use Rattle.houses.specs.Stores.{store_io}

-- sectors are read, and then these writes are stored
unfoldable pub event_io : (places : List ℕ) → List Write → Journal → Io Put'
event_io ps ws j = then' (gathers ps []) (λ ss. store_io j ws)

-- These writes were stored, and the journal is what that left; or the disk failed in the midst of it; or the house stops for another reason,
-- and the disk was asked for nothing.
unfoldable pub Stored : {S : Type 0} → (S → Act → S → Type 0) → Journal → List Write → S → Result Journal (Failed Stopped) → S → Type 0
Stored did j ws s (Ok k) t = Does {E = Fault} did (store_io j ws) s (Ok (record { outcome = Ok tt; journal = k })) t
Stored did j ws s (Err (Disk f)) t = Cut did (store_io j ws) s t
Stored did j ws s (Err (Refused e)) t = (e ≢ NoMemory) × Does {E = Fault} did (answer (tt {0})) s (Ok (tt {0})) t

-- An event that is done has made some reads and at most one transaction, and its journal is what that left; one at which the disk failed, or
-- memory, was cut in the midst of such a program; and one at which the house stops for another reason has only read. Which places are read
-- and what is written isn't said.
unfoldable pub Goes : {S : Type 0} → (S → Act → S → Type 0) → Journal → S → Result Journal (Failed Stopped) → S → Type 0
Goes did j s (Ok k) t = (ps : List ℕ) × (ws : List Write) × Does {E = Fault} did (event_io ps ws j) s (Ok (record { outcome = Ok tt; journal = k })) t
Goes did j s (Err (Disk f)) t = (ps : List ℕ) × (ws : List Write) × Cut did (event_io ps ws j) s t
Goes did j s (Err (Refused e)) t = (e ≢ NoMemory) × (ps : List ℕ) × (ss : List (List ℕ)) × Does {E = Fault} did (gathers ps []) s (Ok ss) t
