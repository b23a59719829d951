pub mod Packing
pub mod Numbers
pub mod Writes
pub mod Bounds
pub mod Laws
pub mod Turns
pub mod Own
pub mod Examples
