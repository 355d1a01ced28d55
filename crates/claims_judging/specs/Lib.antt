pub mod Verdicts
pub mod Fields
pub mod Cases
pub mod Claims
