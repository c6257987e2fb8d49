pub mod Listings
pub mod Drops
pub mod Schemas
pub mod Sessions
pub mod Going
