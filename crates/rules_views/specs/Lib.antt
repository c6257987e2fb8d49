pub mod Columns
pub mod Shows
