pub mod Formed
pub mod Bytes
pub mod Longs
pub mod Users
pub mod Reading
pub mod Claims
