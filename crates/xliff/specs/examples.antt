-- Examples by computation.
pub mod Notation
pub mod Bench
pub mod Delicate
pub mod Limits
pub mod Desk
pub mod Rejoin
pub mod Accents
pub mod States
pub mod Chains
