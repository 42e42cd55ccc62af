pub mod Device
pub mod Disks
pub mod Cluster
pub mod Over
pub mod Promise
pub mod Worked
