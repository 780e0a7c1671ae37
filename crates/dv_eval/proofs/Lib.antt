pub mod Bags
pub mod Names
pub mod Rules
pub mod Variables
