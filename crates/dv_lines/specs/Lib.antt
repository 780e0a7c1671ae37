-- What a reader has to believe: the words of a component, and records of lines.
pub mod Components
pub mod Digits
pub mod Entries
pub mod Records
pub mod Spans
pub mod Tables
pub mod Words
