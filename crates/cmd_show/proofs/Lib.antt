pub mod Within
pub mod Lines
