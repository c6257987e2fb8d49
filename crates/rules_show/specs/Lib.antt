pub mod Listings
pub mod Shows
