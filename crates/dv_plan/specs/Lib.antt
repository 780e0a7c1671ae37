-- What a reader believes: a flat model in groups is a job, and a plan has the shares of its processes.
pub mod Wholes
pub mod Plans
-- What the code of a plan does.
pub mod Steps
-- What channels mean.
pub mod Channels
-- The links of a model, cut to processes.
pub mod Cuts
-- The keys of links.
pub mod Keys
-- The text of a plan.
pub mod Texts
-- Processes at the beginning of a run, the least of their clocks, and what they committed.
pub mod Beginning
pub mod Clocks
pub mod Runs
