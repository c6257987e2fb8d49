pub mod Evicted
