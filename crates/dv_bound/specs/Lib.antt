-- What a reader believes: the response of an atomic model.
pub mod Response
-- What proofs and worked rows need.
pub mod Soonest
pub mod Rows
pub mod Short
