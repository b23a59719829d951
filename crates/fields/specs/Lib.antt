-- The rows of the code beside those of road/specs/Fields.antt.
pub mod Rows
