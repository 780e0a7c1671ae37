-- Two processes without components.
pub mod Ring
