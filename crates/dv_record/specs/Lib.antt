-- What is told to a record.
pub mod Told
