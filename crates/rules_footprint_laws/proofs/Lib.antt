pub mod Once
pub mod Client
pub mod Ahead
