pub mod Calls
pub mod Fields
pub mod State
pub mod Uses
