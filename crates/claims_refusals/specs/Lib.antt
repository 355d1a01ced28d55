pub mod Marked
pub mod Refusals
pub mod Demand1
