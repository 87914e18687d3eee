pub mod RecordLaws
pub mod OrderLaws
pub mod LoopLaws
pub mod TableLaws
pub mod CheckLaws
pub mod PlaceLaws
