pub mod State
pub mod Reach
pub mod Event
pub mod Host
pub mod Claims
pub mod Witness
