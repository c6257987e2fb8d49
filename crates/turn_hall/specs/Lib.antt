pub mod Moves
pub mod Numbers
pub mod Passes
pub mod Prefixes
pub mod Rule
