pub mod Piece
pub mod Answer
pub mod Marks
pub mod Laws
