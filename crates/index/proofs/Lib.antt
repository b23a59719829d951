-- Bounds of the energies that the indices put together.
pub mod Laws
