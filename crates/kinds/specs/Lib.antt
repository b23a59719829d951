-- The kinds of record as a type of their own.
pub mod Kind
