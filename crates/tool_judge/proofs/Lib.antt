pub mod Beginnings
pub mod Verdicts
pub mod Walking
pub mod Closing
pub mod Laws
