-- What a reader believes: the lines of a text, what each means, and what the text means.
pub mod Lines
pub mod Numbers
pub mod Reading
pub mod Words
-- What proofs need.
pub mod Steps
-- What laws and worked rows use.
pub mod Spelled
pub mod Rows
