pub mod model
pub mod claims
pub mod quick
