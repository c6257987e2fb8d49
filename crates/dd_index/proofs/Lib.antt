pub mod Folded
pub mod KeyOrder
pub mod KeysOf
pub mod Kept
pub mod Found
