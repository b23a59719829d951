-- Why halves are shorter, and the rule of cutting.
pub mod Halves
pub mod Rule
