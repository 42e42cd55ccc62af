pub mod Keys
pub mod Seeing
pub mod Decoding
pub mod Steps
pub mod Living
pub mod Heads
pub mod Writing
pub mod Rooms
pub mod Lawful
mod Totals
pub mod Bounds
pub mod Sectors
pub mod Replies
pub mod OnePlace
pub mod Meaning
