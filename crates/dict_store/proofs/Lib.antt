pub mod Readies
pub mod Calls
