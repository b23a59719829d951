pub mod Daily
