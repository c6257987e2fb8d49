pub mod Fitting
pub mod Adding
pub mod Owned
pub mod Groups
