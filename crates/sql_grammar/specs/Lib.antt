pub mod Lexemes
pub mod Grammar
pub mod Rules
pub mod Reading
pub mod Checks
pub mod Judging
pub mod Laws
pub mod Answers
