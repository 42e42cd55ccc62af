pub mod Volumes
pub mod Held
