pub mod Known
pub mod Stores
pub mod Parts
pub mod Writes
pub mod Serving
