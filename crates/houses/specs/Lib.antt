pub mod Acts
pub mod Found
pub mod Gathers
pub mod Sent
pub mod Stops
pub mod Stores
