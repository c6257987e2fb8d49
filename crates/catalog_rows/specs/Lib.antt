pub mod Parts
pub mod Owners
pub mod Lists
pub mod Stands
pub mod Changes
pub mod Adding
pub mod Objects
