pub mod JudgedTables
pub mod JudgedWords
pub mod JudgedCreates
