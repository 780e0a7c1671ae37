-- What serves proofs of the tests.
pub mod Fitting
