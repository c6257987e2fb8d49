pub mod Choices
pub mod Decided
