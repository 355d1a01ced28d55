pub mod Piece
pub mod File
pub mod Answer
