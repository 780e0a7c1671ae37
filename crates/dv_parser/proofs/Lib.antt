pub mod Tokens
pub mod Readers
pub mod Expressions
pub mod Climbing
pub mod Statements
pub mod Models
pub mod OneAnswer
pub mod Rows
