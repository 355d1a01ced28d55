pub mod Play
pub mod Version
pub mod Lines
