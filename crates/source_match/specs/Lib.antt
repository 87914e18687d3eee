pub mod Ten
