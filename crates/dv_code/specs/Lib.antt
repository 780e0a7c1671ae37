-- What a reader believes: what a program may use, what instructions do, the machine, how its runs end, when a program is valid, and
-- what a valid one gives; and rows.
pub mod Limits
pub mod Shape
pub mod Operations
pub mod Machine
pub mod Runs
pub mod Known
pub mod Valid
pub mod Outcomes
pub mod Listing
pub mod Rows
-- What serves proofs.
pub mod Performing
pub mod Turns
pub mod Short
pub mod Decoded
