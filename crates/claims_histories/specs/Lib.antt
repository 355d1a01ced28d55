pub mod History
pub mod Demand3
pub mod Witness
pub mod Demand2
pub mod Host
pub mod Sentence
