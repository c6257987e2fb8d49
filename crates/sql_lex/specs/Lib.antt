pub mod Bytes
pub mod Strings
pub mod Ends
pub mod Pieces
pub mod Spans
pub mod Lexing
pub mod Nexts
pub mod Texts
