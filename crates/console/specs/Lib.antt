pub mod Status
pub mod Output
pub mod Input
pub mod Command
pub mod Stop
