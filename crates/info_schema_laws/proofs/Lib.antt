mod Whole
mod Counted
