pub mod Silence
pub mod Made
