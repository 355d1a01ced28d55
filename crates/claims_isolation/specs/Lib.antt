pub mod Running
pub mod Twins
pub mod Witness
