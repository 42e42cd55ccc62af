pub mod Blocks
pub mod Room
pub mod Served
pub mod OnePlace
