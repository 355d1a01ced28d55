pub mod Deadline
pub mod Reached
pub mod Claims
