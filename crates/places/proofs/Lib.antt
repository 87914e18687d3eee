pub mod Places
pub mod Found
pub mod Tests
pub mod Few
pub mod Ten
pub mod Texts
