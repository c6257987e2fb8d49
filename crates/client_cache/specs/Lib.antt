pub mod Registries
pub mod Cleared
