pub mod Coded
pub mod Footprints
pub mod Plans
pub mod Steps
