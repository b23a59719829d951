pub mod Layout
pub mod Bounds
pub mod Over
