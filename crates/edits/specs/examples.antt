-- Examples by computation.
pub mod Typed
