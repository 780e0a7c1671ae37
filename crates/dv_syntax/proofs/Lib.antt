pub mod Blocks
pub mod Lengths
pub mod Within
