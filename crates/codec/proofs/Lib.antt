-- The record at the front of a job, case by case; and reading and writing settle their outcomes.
pub mod Laws
pub mod Settled
