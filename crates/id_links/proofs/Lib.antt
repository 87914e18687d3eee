pub mod Scans
pub mod Filled
pub mod Chains
pub mod After
pub mod Search
