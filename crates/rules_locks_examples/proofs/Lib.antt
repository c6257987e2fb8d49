pub mod Computed
pub mod Alters
