-- What a job lists, whole and in pieces.
pub mod Job
pub mod Feed
pub mod Pieces
pub mod Inner
