pub mod Weights
pub mod Service
pub mod Restored
pub mod Simulation
