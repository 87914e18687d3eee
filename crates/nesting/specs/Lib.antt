pub mod Scan
pub mod Bars
