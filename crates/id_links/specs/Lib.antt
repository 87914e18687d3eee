pub mod Nearest
pub mod Links
