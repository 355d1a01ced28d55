pub mod Numbers
pub mod Entry
pub mod Follows
pub mod Writes
pub mod Stops
pub mod Claims
