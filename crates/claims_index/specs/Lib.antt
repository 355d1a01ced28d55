pub mod Walk
pub mod Marks
pub mod Cases
pub mod Claims
