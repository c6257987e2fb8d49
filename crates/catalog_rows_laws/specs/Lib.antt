pub mod Laws
pub mod Changing
pub mod Behind
pub mod Beside
