pub mod HeadLaws
pub mod TargetLaws
pub mod PartLaws
