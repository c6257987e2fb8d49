pub mod Digits
pub mod Free
pub mod KeyParts
pub mod Taken
