pub mod Words
pub mod Unbuilt
pub mod Printed
pub mod Writes
pub mod Headline
pub mod Ending
pub mod Complaints
