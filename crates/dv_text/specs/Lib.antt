-- What a reader has to believe: the bytes of a trace, and what a writer holds after a failure.
pub mod Texts
pub mod Names
pub mod Writing
pub mod Clock
-- What serves proofs.
pub mod Merging
