-- What is claimed of the model of the queue half, in other words than the model's.
pub mod Run
pub mod Laws
pub mod Clauses
pub mod FieldClauses
pub mod FlagLaws
pub mod Marked
pub mod Claims
