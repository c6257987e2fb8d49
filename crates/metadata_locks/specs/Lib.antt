pub mod Modes
pub mod Held
pub mod Conflicts
pub mod Tried
