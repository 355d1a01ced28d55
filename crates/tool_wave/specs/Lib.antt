pub mod View
pub mod Stop
pub mod Probe
pub mod Drawn
pub mod Turn
pub mod Vcd
pub mod Claims
