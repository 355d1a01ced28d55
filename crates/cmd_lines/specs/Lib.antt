pub mod Calls
pub mod Told
pub mod Piece
pub mod Ending
