-- What a reader believes: the behaviour of an atomic model by its programs, and the network of a text by programs and links.
pub mod Behaviours
pub mod Networks
