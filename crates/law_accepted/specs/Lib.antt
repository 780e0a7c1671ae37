-- What a reader believes: the states that fit a model, what an accepted model names, and where statements go.
pub mod Fitting
pub mod Gotos
-- Worked rows.
pub mod Clock
pub mod Broken
pub mod Flags
pub mod Bags
pub mod Queues
