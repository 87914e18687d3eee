-- The theory of rules 5 to 10.
pub mod Sequences
pub mod Flat
pub mod Orders
pub mod Unused
pub mod Stack
pub mod Balance
pub mod Marks
pub mod Six
pub mod Total
pub mod Seven
pub mod Turn
pub mod Place
pub mod Eight
pub mod Starts
pub mod Out
pub mod Partner
