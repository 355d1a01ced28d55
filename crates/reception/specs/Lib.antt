pub mod Arrival
pub mod Tally
pub mod Report
pub mod Examples
pub mod Claims
