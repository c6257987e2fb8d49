pub mod Keeps
pub mod Altered
