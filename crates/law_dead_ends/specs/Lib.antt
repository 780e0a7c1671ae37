-- What a reader believes: what a refusal of tokens says, in the words of the grammar.
pub mod Refusals
