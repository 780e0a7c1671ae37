-- What a reader believes: the components of a file, their paths, and routing.
pub mod Instances
pub mod Paths
pub mod Couplings
pub mod Routing
-- What laws use.
pub mod Rows
pub mod Unions
-- What proofs need.
pub mod Reached
pub mod Tables
pub mod Nodes
pub mod Indices
