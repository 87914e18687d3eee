pub mod LateTagLaws
pub mod UnitLaws
