pub mod Answers
pub mod Backlogs
pub mod Clocks
pub mod Jobs
pub mod Marks
pub mod Stretches
pub mod Posts
