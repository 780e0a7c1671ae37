-- What a reader believes: which explanation has a code.
pub mod Codes
