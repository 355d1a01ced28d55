pub mod Piece
pub mod Reached
pub mod Noted
pub mod End
