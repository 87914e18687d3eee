pub mod WordLaws
pub mod NameLaws
pub mod ValueLaws
