-- What is promised of records, proved; and that their calls settle their outcomes.
pub mod Trips
pub mod Numbers
pub mod Settled
