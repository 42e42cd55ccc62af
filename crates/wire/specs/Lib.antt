pub mod Kinds
pub mod Refusals
pub mod Cases
pub mod Calls
pub mod Answers
pub mod Frames
pub mod Promises
