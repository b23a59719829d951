-- Why a job in pieces lists what it lists whole: the rule without turns, the lines, one feed, many feeds.
pub mod Rule
pub mod Lines
pub mod Feeding
pub mod Good
pub mod Pieces
pub mod Settled
