pub mod Giving
pub mod Stepping
pub mod Whole
