pub mod Names
pub mod Moves
pub mod Places
pub mod Items
pub mod Faults
