pub mod Limits
pub mod Time
