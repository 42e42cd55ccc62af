pub mod Firsts
pub mod Weighing
pub mod Counts
pub mod Lists
pub mod Alike
pub mod Room
