-- Split and rejoin (document 02, order 11).
pub mod Heads
pub mod Turned
pub mod OpenAtCut
pub mod Parts
pub mod Joins
pub mod SplitAndJoin
pub mod SplitAndRejoin
