-- The promises on loading, in one set.
use Rattle.pieces.specs.Loading.{LoadsSectors}
use Rattle.pieces.proofs.LoadSteps.{load_append, load_free}
use Rattle.pieces.proofs.Sectors.{seven_entries, sector_back, sector_other, sector_blank, sector_entry, sectors_more}
use Rattle.pieces.proofs.Loading.{load_means}
use Rattle.pieces.proofs.LoadingSame.{loads_same}
use Rattle.pieces.proofs.InRange.{stays_in_range}
use Rattle.pieces.proofs.Staying.{stays_on_device}

pub loads_sectors : LoadsSectors
loads_sectors = record { append = load_append; seven = seven_entries; sector = sector_back; other = sector_other; blank = sector_blank; entry = sector_entry; more = sectors_more; free = load_free }

pub ruleset load_promised = (load_means, loads_same, loads_sectors, stays_in_range, stays_on_device)
