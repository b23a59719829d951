-- Laws of the store: of slots for any party, of the three parties, and of bytes and book.
pub mod Slots
pub mod Places
pub mod Parties
pub mod Laws
pub mod Settled
