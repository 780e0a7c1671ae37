-- Numbers of the language among inputs.
pub mod Numbered
-- What a process of a text begins with.
pub mod Shares
-- What the processes of a text commit can be merged.
pub mod Merging
-- What was written of a text that ran in processes: the lines of its trace.
pub mod Traces
-- The components of a text by programs where they lie.
pub mod Lent
-- The links and the responses of a text as those of a plan.
pub mod Lists
-- What is planned of a text is the text's job.
pub mod Jobs
-- The order of the links.
pub mod Rising
