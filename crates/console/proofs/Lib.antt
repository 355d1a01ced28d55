pub mod Giving
pub mod Lines
pub mod Reading
pub mod Stopping
