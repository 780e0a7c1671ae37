-- What the one process of a job tells, as lines of the job's trace.
pub mod Telling
-- Parts of processes.
pub mod Between
-- The least of clocks, and the clocks that are told of a run by workers.
pub mod ToldClocks
-- What is joined to a backlog between rounds.
pub mod Ended
pub mod Joining
-- What a run is made of, for a job that is said in another way.
pub mod Made
-- No clock falls, and rounds after rounds are rounds.
pub mod Rising
-- The clocks of the processes of a world.
pub mod Worlds
-- What was written, mark after mark.
pub mod Writing
