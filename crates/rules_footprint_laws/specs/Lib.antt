pub mod Ahead
pub mod Clients
