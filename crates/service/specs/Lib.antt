pub mod Service
pub mod ByDay
