pub mod Admitting
pub mod Below
pub mod Reached
pub mod Refusing
pub mod Lawful
pub mod Witness
