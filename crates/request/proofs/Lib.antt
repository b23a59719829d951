-- Laws of records: the rows of the table, the cases of reader and writer, each kind, the round trips; and the figures.
pub mod Rows
pub mod Laws
pub mod Calls
pub mod Own
pub mod Numbers
pub mod Trips
pub mod Figures
