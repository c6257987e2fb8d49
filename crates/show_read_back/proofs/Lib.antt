pub mod Lists
pub mod Steps
pub mod Numbers
pub mod ColumnsAgain
pub mod NamesAgain
pub mod KeysAgain
pub mod Order
pub mod ByRank
pub mod Parents
pub mod ForeignKeysAgain
pub mod Elements
pub mod TableAgain
pub mod Owners
pub mod Stands
pub mod ReadBack
mod Makes
