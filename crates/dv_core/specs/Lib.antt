-- What is asked of a process, and what steps and their answers stand for.
pub mod ProcessState
pub mod Answers
-- What a world keeps, what its steps and rounds are, and what it has committed.
pub mod Kept
pub mod Worlds
-- The conservative process as a process of a world.
pub mod Conservative
-- What serves proofs: what is so of every world.
pub mod Standing
