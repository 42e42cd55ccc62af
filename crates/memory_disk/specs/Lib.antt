pub mod Chances
pub mod Contents
pub mod Disks
pub mod Models
