pub mod Text
pub mod Lines
pub mod Through
pub mod Told
