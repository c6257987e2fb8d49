pub mod Decided
pub mod Faults
