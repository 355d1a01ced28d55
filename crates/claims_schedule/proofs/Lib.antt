pub mod Polls
pub mod Touching
pub mod Stops
