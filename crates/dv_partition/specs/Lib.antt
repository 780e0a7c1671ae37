-- What a reader believes: the answer to a partition.
pub mod Limits
pub mod Groups
pub mod Listed
pub mod Answers
-- What each part of the code does.
pub mod Steps
pub mod Grouped
-- The text of a refusal.
pub mod Words
