pub mod Alike
pub mod Lists
pub mod Cases
pub mod ByHouse
pub mod Ready
pub mod Exec
pub mod Told
