-- What serves proofs: what code for an atomic model gives, compared with its behaviour.
pub mod Given
-- And the instants, waits, components and outcomes of the code, in the words of the formalism.
pub mod Committed
pub mod Components
pub mod Outcomes
pub mod Starts
