pub mod Laid
pub mod Sectors
pub mod Writes
