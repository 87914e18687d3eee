pub mod Blanks
pub mod Values
