pub mod Words
pub mod Values
pub mod Sdi
pub mod Reading
pub mod Types
