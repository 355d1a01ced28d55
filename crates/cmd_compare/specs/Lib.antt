pub mod Tally
pub mod Piece
pub mod Verdict
pub mod Lines
pub mod Step
pub mod Whole
