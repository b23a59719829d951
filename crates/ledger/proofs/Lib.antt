-- Laws of the ledger: a walk that stops, a source's round of the receivers, the gathering at a receiver, accounts afresh, the walls.
pub mod Stops
pub mod Rounds
pub mod Seats
pub mod Gathers
pub mod Mapped
pub mod Tallies
pub mod Laying
pub mod Settled
