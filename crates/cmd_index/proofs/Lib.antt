pub mod Telling
pub mod Filing
