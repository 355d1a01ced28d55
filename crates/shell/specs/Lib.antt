pub mod Options
pub mod Arguments
pub mod Escapes
pub mod Folder
