pub mod Sets
pub mod Adds
pub mod Hits
pub mod Plans
