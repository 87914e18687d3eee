pub mod FrontLaws
pub mod BeginLaws
