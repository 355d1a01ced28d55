pub mod Iterate
