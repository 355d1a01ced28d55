pub mod Clocks
pub mod Accesses
pub mod Events
pub mod Records
