pub mod Parts
pub mod Tables
pub mod Words
pub mod Columns
pub mod Keys
pub mod ForeignKeys
pub mod Creates
