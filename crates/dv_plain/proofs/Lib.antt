pub mod Starts
pub mod Silence
pub mod Ready
pub mod Steps
pub mod Least
pub mod Emitted
pub mod InputWalk
pub mod Reached
