pub mod Format
pub mod Scans
pub mod Programs
