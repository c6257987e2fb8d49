pub mod Order
pub mod Batches
pub mod Kept
pub mod Rows
pub mod Meaning
pub mod Reading
