pub mod UnitLaws
pub mod SmallLaws
pub mod LoopLaws
pub mod RecordLaws
