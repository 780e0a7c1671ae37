-- What a reader believes: how transitions and values are counted.
pub mod Counting
