-- How pieces, halves and joined parts go together, and what the contracts of a pair settle.
pub mod Laws
pub mod Settled
