pub mod Driven
pub mod Demand3
