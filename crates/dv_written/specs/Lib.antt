-- Whether a trace holds a fault.
pub mod Faults
-- The job of `Brand`.
pub mod Jobs
-- The length of the lines that were not handed over yet.
pub mod Rest
-- What it means to put a text into a slice.
pub mod Rooms
