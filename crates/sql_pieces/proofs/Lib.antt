pub mod Strings
pub mod Numbers
pub mod Joins
pub mod Characters
pub mod Shapes
pub mod Told
pub mod Spaced
