-- Lists of which some items are kept.
pub mod Lists
-- The components of a share.
pub mod Members
-- What comes from outside to a share.
pub mod Outside
-- The response of a share.
pub mod Holds
-- What is made is a share.
pub mod Shares
-- How many links between processes there are.
pub mod Few
-- The inputs that are kept.
pub mod KeptInputs
-- Links to a process that is not there.
pub mod Between
-- Lists that grow in a loop.
pub mod Loops
-- The links of a key.
pub mod Kept
-- The links between processes.
pub mod Sent
-- The links that lead to a process and away from it.
pub mod Leading
-- The responses of processes.
pub mod Responded
-- The order of the links.
pub mod Rising
-- Indices among models.
pub mod Placing
-- The text of a plan.
pub mod Texts
-- Processes as they begin, and a world that is made of them.
pub mod Beginning
-- What the processes of a world hand over.
pub mod Running
-- The least of clocks.
pub mod LeastClock
