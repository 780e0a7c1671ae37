-- What a reader believes: the network of a text, and its trace.
pub mod Source
-- What serves proofs: when inputs arrive, and what the output functions of all components give.
pub mod InputTimes
pub mod Outputs
