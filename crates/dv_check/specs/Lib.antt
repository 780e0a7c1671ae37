-- What a reader believes: the rules of a text, and which refusal is answered.
pub mod Limits
pub mod Names
pub mod Types
pub mod Rules
pub mod Ports
pub mod Models
pub mod LinkSets
pub mod Couplings
pub mod Cycles
pub mod Tree
pub mod Refusals
pub mod Writable
-- What laws use.
pub mod CheckedFiles
pub mod Loops
pub mod Relays
pub mod Nests
-- What proofs need.
pub mod Findings
pub mod Tables
pub mod Sizes
pub mod Holds
