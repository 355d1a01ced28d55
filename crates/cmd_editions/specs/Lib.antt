pub mod Words
pub mod Writes
