pub mod Without
pub mod Laws
pub mod ReadBack
