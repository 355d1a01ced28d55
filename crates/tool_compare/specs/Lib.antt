pub mod Answer
pub mod Kind
pub mod Refusals
pub mod Compare
pub mod Laws
pub mod Pieces
pub mod Claims
