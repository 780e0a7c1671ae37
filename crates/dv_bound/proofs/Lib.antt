pub mod Names
pub mod Soonest
pub mod Tables
pub mod Gotos
pub mod Numbers
pub mod Values
pub mod NotBelow
pub mod Short
