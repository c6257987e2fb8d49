pub mod Keys
pub mod Sound
pub mod Entries
pub mod Finds
pub mod Releases
