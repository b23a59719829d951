pub mod Slots
pub mod Store
pub mod Placed
