pub mod Lists
pub mod Pairs
pub mod Parting
pub mod Slots
pub mod Turning
pub mod Views
