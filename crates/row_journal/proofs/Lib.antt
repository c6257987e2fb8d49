pub mod Bytes
pub mod Steps
pub mod Gated
pub mod Exact
