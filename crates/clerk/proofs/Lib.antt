-- The clerk's call settles its outcome.
pub mod Settled
