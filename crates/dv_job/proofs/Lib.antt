pub mod Counted
pub mod DeadEnds
pub mod Loading
pub mod Plans
pub mod Printing
pub mod Ran
