pub mod GrammarParts
pub mod GrammarColumns
pub mod GrammarKeys
pub mod GrammarActions
pub mod GrammarViews
pub mod Grammar
pub mod Names
pub mod Reads
