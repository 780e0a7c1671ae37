-- What a reader believes: which file a source of the code is, which texts tokens spell, and which files texts stand for.
pub mod Sources
pub mod Texts
pub mod Grammar
