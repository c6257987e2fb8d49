pub mod Parts
pub mod Columns
pub mod Keys
pub mod Actions
pub mod Views
pub mod Canonical
pub mod Laws
