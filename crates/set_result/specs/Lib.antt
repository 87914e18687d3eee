pub mod SetUnit
pub mod Counts
