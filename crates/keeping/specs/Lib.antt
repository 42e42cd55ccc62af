pub mod Keeping
pub mod Single
pub mod Keeper
