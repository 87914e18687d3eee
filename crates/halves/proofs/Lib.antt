pub mod NoHalves
pub mod Follow
pub mod Runs
pub mod Others
pub mod TwoSequences
