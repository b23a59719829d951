-- The kinds that are not listed.
pub mod Laws
