pub mod Codes
pub mod Lost
pub mod Fixed
pub mod Chains
