pub mod Lists
pub mod Orders
pub mod Places
pub mod Moves
pub mod Elsewhere
pub mod Commits
