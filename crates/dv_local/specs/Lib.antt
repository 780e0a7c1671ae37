-- The share of a process.
pub mod Shares
-- The components of a process, with a count of visits.
pub mod Components
-- How components are put back, and what they wait for.
pub mod Undoing
-- What events bring, and what arrives at each time.
pub mod Arrivals
-- The state of a process's components, as contracts see it.
pub mod States
-- How a component reacts in its place, and what is committed at an instant.
pub mod Reacting
pub mod Commits
-- Items that lie in lists, in an order of their own.
pub mod Orders
