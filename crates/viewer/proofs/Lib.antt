-- What the calls of the viewer rest on: their laws, that each call settles its outcome, and that a caller can read back what was told.
pub mod Laws
pub mod Settled
pub mod ReadBack
