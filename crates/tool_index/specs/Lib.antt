pub mod Records
pub mod Walk
pub mod Marks
pub mod Find
pub mod Stored
pub mod Laws
pub mod Claims
