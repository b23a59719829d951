-- Laws of the calls: the order of refusals, how an answer follows from damage, a change that all receivers follow, and that a store stays undamaged.
pub mod Answered
pub mod Entries
pub mod Rounded
pub mod Sums
pub mod Keeps
