pub mod Puts
pub mod Decimal
pub mod Numbers
pub mod Lengths
pub mod Messages
pub mod Fields
pub mod ReadBack
