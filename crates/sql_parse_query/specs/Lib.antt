pub mod Decided
pub mod Tails
