pub mod HeadLaws
pub mod WalkLaws
pub mod BarLaws
