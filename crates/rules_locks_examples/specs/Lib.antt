pub mod Family
pub mod Asked
pub mod Schemas
pub mod Tables
pub mod Alters
pub mod Parts
