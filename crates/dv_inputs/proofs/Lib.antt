pub mod Cuts
pub mod Digits
pub mod PortTables
pub mod Ranges
pub mod GreaterLimits
pub mod Spellings
pub mod Times
pub mod Printing
