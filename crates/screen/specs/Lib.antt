-- Noise walls: the plan, the upright section, what the walls between a piece and a point take off, and figures worked by hand.
pub mod Plan
pub mod Section
pub mod Screen
pub mod Figures
