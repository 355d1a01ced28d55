-- What is claimed of the model of the module, as a host sees it.
pub mod Holds
pub mod Count
pub mod StatusFlags
pub mod RequestClauses
pub mod PinClauses
pub mod SeenClauses
pub mod Registers
pub mod Witness
pub mod Claims
