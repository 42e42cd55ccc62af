pub mod Files
pub mod Disks
pub mod Models
