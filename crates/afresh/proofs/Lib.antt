-- What a round of all accounts afresh settles.
pub mod Settled
