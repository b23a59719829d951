-- The digits of a number, texts written one after another, and how they come on a page.
pub mod Decimal
pub mod Writing
pub mod Pages
