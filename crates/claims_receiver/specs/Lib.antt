pub mod Silent
pub mod Moments
pub mod Claims
