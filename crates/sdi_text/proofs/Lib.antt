mod Floats
mod Back
mod Names
mod Suffix
mod Parts
mod Items
