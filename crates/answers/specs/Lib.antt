pub mod Answer
pub mod Field
pub mod Claims
