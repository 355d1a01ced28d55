pub mod Item
pub mod Piece
pub mod Next
