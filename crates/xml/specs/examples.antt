-- Examples by computation.
pub mod Notation
pub mod Reading
pub mod Writing
