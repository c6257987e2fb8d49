pub mod Subrules
pub mod Decided
pub mod Parsing
pub mod Bodies
