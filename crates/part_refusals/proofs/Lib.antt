pub mod ClosedLaws
pub mod IdLaws
