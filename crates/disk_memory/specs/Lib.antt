pub mod Record
pub mod Fail
pub mod Stands
pub mod Replay
pub mod Shown
pub mod Causes
