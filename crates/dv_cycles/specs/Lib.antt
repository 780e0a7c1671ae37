-- What a reader believes: directed graphs and ways in them.
pub mod Ways
-- What proofs need.
pub mod Cuts
pub mod Search
