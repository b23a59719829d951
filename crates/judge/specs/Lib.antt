-- What is said of rows and values.
pub mod Rows
