pub mod Led
pub mod Grounds
pub mod Children
