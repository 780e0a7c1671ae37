-- What programs give, whose they are, and the components of a text.
pub mod Given
pub mod Models
pub mod Lent
pub mod Components
