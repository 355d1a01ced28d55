pub mod Verdict
pub mod Judge
pub mod Numbers
pub mod Claims
