pub mod Writing
pub mod Printing
pub mod Sessions
pub mod Input
pub mod Unread
pub mod Runnable
pub mod Refused
pub mod Endings
