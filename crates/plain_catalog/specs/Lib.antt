pub mod Names
pub mod Placing
pub mod Objects
pub mod Indexed
pub mod Listed
pub mod Whole
pub mod Known
pub mod Changed
