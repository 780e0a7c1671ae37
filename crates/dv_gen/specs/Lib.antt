-- What a reader believes: trees in which names are indices, what they mean, and their programs; and worked rows.
pub mod Resolved
pub mod Resolution
pub mod Generator
pub mod ModelCode
pub mod Over
pub mod Rows
-- What proofs need.
pub mod Emission
pub mod Directories
pub mod Generators
