pub mod NameTexts
pub mod FrontKinds
pub mod StringTexts
pub mod Made
