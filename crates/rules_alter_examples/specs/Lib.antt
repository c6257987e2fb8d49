pub mod Catalogs
pub mod Refusals
pub mod Rebuilds
pub mod Definitions
