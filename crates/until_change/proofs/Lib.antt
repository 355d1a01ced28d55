pub mod First
pub mod Steadily
pub mod Turns
pub mod Returning
pub mod Example
pub mod Leastly
pub mod Later
