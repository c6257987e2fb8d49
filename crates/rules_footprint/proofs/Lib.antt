pub mod Fitting
pub mod Has
pub mod Loops
