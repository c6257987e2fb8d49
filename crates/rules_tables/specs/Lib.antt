pub mod Likes
pub mod Named
pub mod Truncates
