pub mod Machines
pub mod Promises
