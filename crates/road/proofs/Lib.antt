-- Laws of roads: bounds, the tables of fields, what allowed fields tell, what callers may use of a pair; and the figures.
pub mod Bounds
pub mod Rows
pub mod Fit
pub mod Judged
pub mod Sums
pub mod Pairs
pub mod Periods
pub mod Figures
pub mod Settled
