pub mod Steps
pub mod Holdings
pub mod Claims
pub mod Locks
pub mod Held
pub mod Told
pub mod Evictions
