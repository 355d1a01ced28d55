pub mod Trace
pub mod Play
pub mod Laws
pub mod Records
pub mod LongHolds
pub mod Claims
