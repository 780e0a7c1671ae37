-- What a reader believes: what names denote, and what expressions, rules and holds do.
pub mod Scope
pub mod Meaning
pub mod Contexts
-- What proofs and worked rows need.
pub mod Steps
pub mod Edges
pub mod Rows
pub mod NameLists
