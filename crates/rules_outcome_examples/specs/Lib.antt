pub mod Catalogs
pub mod Drops
pub mod Numbers
pub mod Renamings
pub mod Shows
pub mod Tables
