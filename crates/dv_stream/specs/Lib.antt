-- ---- What a reader believes
-- What was written of the trace of a job.
pub mod Written
-- What a single process has written.
pub mod Alone
-- How a run ended.
pub mod Endings
-- Clocks of a run.
pub mod Clocks
-- ---- What serves proofs
-- What is joined between rounds.
pub mod Rounds
