-- The calls of the book settle their outcomes.
pub mod Settled
