pub mod lists
pub mod text
pub mod records
pub mod unit
pub mod rules
pub mod operations
pub mod both_ends
pub mod rejoin
