pub mod Pieces
pub mod Telling
