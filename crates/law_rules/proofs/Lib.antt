pub mod Pairs
pub mod Shares
pub mod Steps
pub mod Texts
