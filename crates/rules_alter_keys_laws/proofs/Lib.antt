pub mod Relation
pub mod Follows
pub mod Added
pub mod Steps
pub mod Pairs
pub mod Whole
