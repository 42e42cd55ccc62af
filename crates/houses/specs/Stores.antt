-- What is stored goes into one transaction; where nothing is to be stored there is none.
-- Assumes nothing.
use Rattle.std.specs.Prelude.{◌∷◌, List, [], Ok}
use Rattle.disks.specs.Device.{Io, answer}
use Rattle.journal.specs.Programs.{Put', put_io}
use Rattle.journal.specs.declared.state.Journal.{Journal}
use Rattle.journal.specs.declared.state.Write.{Write}

unfoldable pub store_io : Journal → List Write → Io Put'
store_io j [] = answer (record { outcome = Ok tt; journal = j })
store_io j (w ∷ ws) = put_io j (w ∷ ws)
