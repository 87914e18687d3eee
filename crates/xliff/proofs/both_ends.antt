-- Demand 3.
pub mod FitsKept
pub mod Once
pub mod KeptCodes
pub mod Lists
pub mod Demand3
