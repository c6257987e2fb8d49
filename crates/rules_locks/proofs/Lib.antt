pub mod Places
pub mod Requests
pub mod Covers
pub mod Clash
pub mod Told
