-- Laws of daily figures.
pub mod Laws
pub mod Settled
