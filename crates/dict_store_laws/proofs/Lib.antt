pub mod Stripped
pub mod Planned
pub mod Leaving
pub mod Phases
pub mod Steady
pub mod Commits
pub mod Histories
