pub mod Happened
pub mod Segment
pub mod Claims
pub mod Witness
pub mod Quick
