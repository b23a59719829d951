-- Laws of kinds and their numbers; and the public functions settle their outcomes.
pub mod Laws
pub mod Settled
