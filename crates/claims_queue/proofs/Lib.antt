pub mod Entry
pub mod Complete
pub mod Follows
pub mod Stops
pub mod Written
pub mod Writes
