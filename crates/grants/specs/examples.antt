-- Examples by computation.
pub mod Granted
