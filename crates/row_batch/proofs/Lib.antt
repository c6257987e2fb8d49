pub mod Fields
pub mod Readings
pub mod Loop
pub mod Ordered
pub mod Meanings
pub mod Keeping
pub mod Framing
