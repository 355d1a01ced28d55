pub mod Telling
pub mod Playing
