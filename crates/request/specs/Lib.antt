-- What a record is: its kinds, what reading and writing it give, and what the inner functions say.
pub mod Kinds
pub mod Record
pub mod Inner
