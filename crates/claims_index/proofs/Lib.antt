pub mod Walked
pub mod Marks
pub mod Cases
