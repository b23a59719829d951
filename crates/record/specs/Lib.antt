-- What is promised of records beside the contracts: the round trips, the part, and the numbers that a caller may get back.
pub mod Trips
pub mod Numbers
