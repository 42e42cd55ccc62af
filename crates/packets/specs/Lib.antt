pub mod Codecs
pub mod Formats
pub mod Seen
pub mod Areas
