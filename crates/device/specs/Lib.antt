pub mod Does
pub mod Tied
pub mod Runs
pub mod Told
