pub mod Scan
pub mod Names
pub mod Item
pub mod Sent
pub mod Encode
