pub mod Logs
pub mod Ghosts
pub mod Requests
