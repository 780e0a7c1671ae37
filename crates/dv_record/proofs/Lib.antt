-- The lines of what leaves, and when an instant can be told.
pub mod Lines
pub mod Open
-- A struct without fields.
pub mod Tokens
