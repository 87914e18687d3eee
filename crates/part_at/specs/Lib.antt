pub mod Content
pub mod Stands
pub mod Targets
pub mod Lent
