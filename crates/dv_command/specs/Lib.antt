-- What a reader believes: the subcommands and their options, what the words behind one say, and what is asked for.
pub mod Subcommands
pub mod Words
pub mod Numbers
pub mod Asked
-- What the types of requests keep: the ranges of what is asked for.
pub mod Ranges
-- What serves proofs.
pub mod Steps
