-- The tables of the code, and that the public functions settle their outcomes.
pub mod Rows
pub mod Settled
