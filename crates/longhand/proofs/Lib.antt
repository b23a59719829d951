-- How columns are written, how the rows of a sheet follow each other, and what its digits are worth.
pub mod Writing
pub mod Rows
pub mod Values
pub mod Examples
