pub mod ResultLaws
pub mod PlaceLaws
pub mod UnitLaws
