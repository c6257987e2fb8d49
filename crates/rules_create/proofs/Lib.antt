pub mod Flat
pub mod Fronts
pub mod Digits
pub mod Parts
pub mod Filled
pub mod Lists
pub mod FoldedNames
pub mod OrderedKeys
pub mod Linked
mod MadeNumbers
pub mod Names
mod MadeColumns
mod KeyColumns
mod FreeNames
mod MadeKeys
mod WithIndex
pub mod Order
pub mod OneKey
mod ForeignKeys
mod ByClass
pub mod Formed
pub mod Seen
