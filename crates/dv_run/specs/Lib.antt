-- What runs of texts promise.
pub mod Runs
-- A text as a job.
pub mod Texts
-- What the trace of a text rests on.
pub mod Traces
