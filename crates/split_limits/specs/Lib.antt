pub mod Cuts
pub mod Added
