pub mod Utf8
pub mod Blocks
pub mod Points
