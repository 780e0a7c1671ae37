-- What a reader believes: the trees, and the tokens that spell them.
pub mod Operators
pub mod Trees
pub mod Written
pub mod Grammar
