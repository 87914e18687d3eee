-- Lists, sums and tests.
pub mod Tests
pub mod Each
pub mod Sum
pub mod Slices
