pub mod ObjectNames
pub mod Paths
