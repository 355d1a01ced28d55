pub mod Change
pub mod Steady
pub mod Claims
