-- How values are judged by rows, and that the public functions settle their outcomes.
pub mod Rows
pub mod Settled
