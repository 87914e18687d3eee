pub mod Passes
pub mod Found
pub mod Markers
pub mod Offsets
