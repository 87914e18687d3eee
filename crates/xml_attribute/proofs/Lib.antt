pub mod ReadingLaws
pub mod ValueLaws
pub mod NameLaws
pub mod NextLaws
