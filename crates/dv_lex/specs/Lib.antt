-- What a reader believes: the tokens of a text, or its refusal with its offset and its line.
pub mod Lexemes
pub mod Reading
pub mod Table
pub mod Numbering
pub mod Versions
pub mod Texts
pub mod Order
pub mod Words
-- What proofs need.
pub mod Steps
