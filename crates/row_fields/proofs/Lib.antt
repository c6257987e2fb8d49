pub mod Loop
pub mod Again
pub mod Repeats
pub mod Ordered
