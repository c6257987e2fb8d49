pub mod Apart
pub mod Folding
pub mod Reading
pub mod Words
