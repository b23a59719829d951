-- Laws of the plan, of the section and of the list of walls.
pub mod Bounds
pub mod Lines
pub mod Aside
pub mod Heights
pub mod Lists
