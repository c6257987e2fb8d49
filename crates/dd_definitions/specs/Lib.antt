pub mod Columns
pub mod Defaults
pub mod Distinct
pub mod ForeignKeys
pub mod Indexes
pub mod Views
pub mod Named
pub mod WellFormed
