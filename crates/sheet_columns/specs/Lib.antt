pub mod Taken
pub mod Filled
