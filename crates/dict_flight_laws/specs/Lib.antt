pub mod Phases
pub mod Flight
