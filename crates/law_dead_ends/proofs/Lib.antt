pub mod Steady
pub mod Completions
pub mod Depths
pub mod Widening
pub mod ExpressionReaders
pub mod StatementReaders
pub mod ModelReaders
pub mod DeadEnds
