pub mod Piece
pub mod Ending
pub mod Rate
