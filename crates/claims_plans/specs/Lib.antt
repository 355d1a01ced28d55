pub mod Watching
pub mod Moments
pub mod Standing
pub mod Converter
pub mod Plans
pub mod Example
pub mod Claims
