pub mod Polls
pub mod Stops
pub mod Claims
