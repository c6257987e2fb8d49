pub mod Nulls
pub mod Others
