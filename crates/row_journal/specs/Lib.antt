pub mod Contents
pub mod Value
pub mod Append
pub mod Opening
pub mod Gates
