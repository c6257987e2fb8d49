pub mod Whole
pub mod Listings
pub mod Kept
pub mod Named
