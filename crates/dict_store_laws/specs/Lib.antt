pub mod System
pub mod Recovers
pub mod Kept
pub mod Steps
pub mod Plans
pub mod Safe
