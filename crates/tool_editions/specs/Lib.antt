pub mod Records
pub mod Refusals
pub mod Rules
pub mod Contents
pub mod Editions
pub mod Laws
pub mod Claims
