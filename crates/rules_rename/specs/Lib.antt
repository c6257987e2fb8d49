pub mod Overlays
pub mod Behind
pub mod Renames
pub mod Left
pub mod Puts
pub mod Ids
pub mod Indexed
pub mod Pairs
