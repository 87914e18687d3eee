pub mod Contents
pub mod Nesting
pub mod Heads
