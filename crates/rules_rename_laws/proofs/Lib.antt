pub mod ForeignKeys
pub mod Overlays
pub mod Leaves
