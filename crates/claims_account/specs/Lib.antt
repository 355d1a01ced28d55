pub mod Claims
pub mod Losing
