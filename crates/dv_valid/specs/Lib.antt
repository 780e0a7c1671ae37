-- What serves proofs: how the validator keeps marks, and what they mean.
pub mod Nests
pub mod Stacks
pub mod Marks
