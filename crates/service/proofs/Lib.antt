-- What a reading comes to on a store, that a record depends on its own bytes alone, which records a job stops at, and that a record by the
-- daily figure comes to what the record of its counts comes to.
pub mod Laws
pub mod Own
pub mod Stops
pub mod Rows
pub mod ByDay
pub mod Settled
