pub mod AllGone
pub mod Ids
pub mod Joined
pub mod Staying
pub mod Twice
