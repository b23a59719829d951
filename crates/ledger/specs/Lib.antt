pub mod Lists
pub mod Changes
pub mod Ledger
