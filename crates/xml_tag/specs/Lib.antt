pub mod Markups
