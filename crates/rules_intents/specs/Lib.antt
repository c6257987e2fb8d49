pub mod Intents
pub mod Grips
