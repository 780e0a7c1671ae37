pub mod Agreeing
pub mod Alike
pub mod Emissions
pub mod Floods
pub mod Keeping
pub mod Models
pub mod Programs
pub mod Responses
