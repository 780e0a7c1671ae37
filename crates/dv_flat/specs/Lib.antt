-- What a reader believes: the links of a text, and the limit on them.
pub mod Ends
pub mod Links
pub mod Limit
-- What laws use.
pub mod Carried
pub mod Rows
-- What proofs need.
pub mod Probes
pub mod Ways
