pub mod Lists
pub mod Tops
pub mod Tries
pub mod Growth
pub mod Unique
