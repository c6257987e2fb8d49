pub mod Indexes
pub mod MadeNames
pub mod Parents
pub mod Taken
pub mod Written
