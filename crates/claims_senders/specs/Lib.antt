pub mod Fair
pub mod Heard
pub mod Witness
pub mod Rates
pub mod Clocks
pub mod Undamaged
