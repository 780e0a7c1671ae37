pub mod Left
pub mod Models
pub mod Indexed
