-- What a reader believes: one item of a source more in a model.
pub mod Sorting
