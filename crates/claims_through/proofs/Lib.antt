pub mod Steps
pub mod Ended
pub mod Spaced
pub mod Whole
pub mod Levels
pub mod Polls
pub mod Replays
pub mod Meeting
