pub mod Edges
pub mod NameTexts
pub mod Moved
pub mod Judged
