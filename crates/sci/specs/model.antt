-- What the rules say of the serial half, in document 01's order. This is what a reader must believe.
pub mod Flags
pub mod Status
pub mod Control
pub mod Bits
pub mod Framer
pub mod Receiver
pub mod Account
pub mod Transmitter
pub mod Parts
pub mod Serial
