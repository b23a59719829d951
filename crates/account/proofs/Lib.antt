-- Each function of an account settles its outcome.
pub mod Settled
