-- The ends of links, and what is known of a process that a worker owns.
pub mod Ends
pub mod Seats
-- The processes of one worker, and what it leaves.
pub mod Workers
-- The parts of a run by workers.
pub mod Crews
-- Processes as they get the ends of their links.
pub mod Making
-- What a run reports.
pub mod Reached
-- Flags, and how a run ends.
pub mod Flags
pub mod Endings
