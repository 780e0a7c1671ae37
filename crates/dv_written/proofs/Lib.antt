pub mod Behind
pub mod Lines
