pub mod Cases
pub mod PieceTexts
pub mod CanonicalTexts
pub mod ShownTexts
