pub mod ArrayLaws
pub mod CollectLaws
pub mod TableReadLaws
