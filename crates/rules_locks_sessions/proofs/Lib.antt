pub mod Locked
pub mod Events
