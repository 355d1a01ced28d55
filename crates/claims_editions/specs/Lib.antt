pub mod History
pub mod Faults
pub mod Cases
pub mod Claims
