pub mod PassageLaws
pub mod EmptyLaws
pub mod OuterLaws
