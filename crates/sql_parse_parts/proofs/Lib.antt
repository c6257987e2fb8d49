pub mod Placed
pub mod StopsOfRules
