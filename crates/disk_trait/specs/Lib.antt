pub mod Change
pub mod Crash
pub mod Story
pub mod Calls
pub mod Carried
