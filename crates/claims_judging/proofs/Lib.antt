pub mod Stops
pub mod FirstWrong
pub mod Parts
pub mod Fields
pub mod Cases
