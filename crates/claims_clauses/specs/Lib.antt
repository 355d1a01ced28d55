pub mod FlagsFall
pub mod SeenBy
pub mod Starts
pub mod Noise
pub mod Witness
pub mod Permission
pub mod Off
