-- What holds of a line's digits and of its length, and how texts are written one after another.
pub mod Laws
pub mod Writing
pub mod Examples
pub mod Settled
