pub mod Columns
pub mod Defaults
pub mod ForeignKeys
pub mod Keys
pub mod Taken
