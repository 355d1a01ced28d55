pub mod Playing
pub mod Laws
pub mod Records
pub mod Forms
pub mod LongHolds
pub mod Going
