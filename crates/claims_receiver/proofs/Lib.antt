pub mod Silent
pub mod Moments
