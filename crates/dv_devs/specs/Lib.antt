-- The meaning: what a component, a network and a run are, and what belongs to a set of components.
pub mod Behaviour
pub mod Network
pub mod Parts
pub mod Clocks
-- What laws use.
pub mod Cuts
pub mod Fits
pub mod Idle
pub mod Inputs
pub mod NextTimes
pub mod Outside
-- Worked rows.
pub mod Models
pub mod Rows
