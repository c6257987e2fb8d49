pub mod Moved
pub mod Named
pub mod Standing
