pub mod Bits
pub mod Iterate
