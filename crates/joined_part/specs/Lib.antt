pub mod States
pub mod Heads
pub mod Joined
