pub mod HeadLaws
pub mod PartLaws
pub mod WalkLaws
pub mod UnitLaws
