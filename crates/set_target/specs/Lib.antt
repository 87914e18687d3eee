pub mod Ending
pub mod Stages
