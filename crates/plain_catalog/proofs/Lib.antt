pub mod InOrder
pub mod Sorted
pub mod ByName
pub mod Standing
pub mod Indexed
pub mod Keys
pub mod Changes
