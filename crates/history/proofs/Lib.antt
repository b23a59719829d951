-- The theorems on histories, and what they rest on: slots, accounts, gates, a book that is filled.
pub mod Slots
pub mod Accounts
pub mod Gates
pub mod Filled
pub mod Laws
pub mod Keeps
pub mod Numbers
pub mod History
pub mod Rebuild
pub mod Setting
pub mod Theorems
pub mod Example
