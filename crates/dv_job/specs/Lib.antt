-- What a reader believes: the model of a text, its answer, what a run and a listing of bytes leave, and statuses.
pub mod Job
pub mod Ending
pub mod Running
pub mod Halts
pub mod Stepping
pub mod Planned
pub mod Names
pub mod Listed
pub mod Errors
pub mod Limits
pub mod Ranges
pub mod Status
-- What serves proofs.
pub mod Loading
pub mod Written
