pub mod Through
pub mod Replayed
