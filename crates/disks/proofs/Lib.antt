pub mod Steps
pub mod Found
mod Pictures
mod Tokens
mod VolumeDevice
mod Apart
mod Worked
