-- What the rules say of the queue half. This is what a reader must believe.
pub mod Parts
pub mod Fields
pub mod Spsr
pub mod Entry
pub mod Registers
pub mod Ram
pub mod Queue
pub mod Outputs
