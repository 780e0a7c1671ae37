-- What a reader believes: values, bags, inputs, what a rule does, and the entries of a trace.
pub mod Limits
pub mod Bag
pub mod Collections
pub mod BagLists
pub mod Arithmetic
pub mod Arrivals
pub mod Effects
pub mod Inputs
pub mod Numbers
pub mod Outcome
pub mod Part
pub mod Reading
pub mod Responses
pub mod Words
-- What serves proofs.
pub mod Bags
pub mod InputSteps
pub mod Same
pub mod Sent
