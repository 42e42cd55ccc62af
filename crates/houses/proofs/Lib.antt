pub mod Gathering
pub mod Transacts
pub mod Acting
