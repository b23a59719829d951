-- The calls of the book on an undamaged store settle their outcomes.
pub mod Judged
pub mod Settled
