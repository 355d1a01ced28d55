pub mod Membership
pub mod Facts
pub mod Running
pub mod History
pub mod Faults
pub mod Cases
