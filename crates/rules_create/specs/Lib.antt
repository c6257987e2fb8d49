pub mod Tables
pub mod Made
pub mod Leaves
pub mod Drafts
