pub mod Spacing
pub mod Rule
pub mod Replays
