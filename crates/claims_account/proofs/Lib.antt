pub mod Since
pub mod Lifting
pub mod Losing
