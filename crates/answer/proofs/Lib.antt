-- What the table of numbers settles.
pub mod Laws
pub mod Settled
