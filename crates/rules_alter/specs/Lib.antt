pub mod Altering
pub mod Arranged
pub mod Columns
pub mod Keys
pub mod ForeignKeys
pub mod Rebuilds
pub mod Actions
pub mod Statements
