pub mod Keys
pub mod Places
pub mod Sessions
pub mod Together
