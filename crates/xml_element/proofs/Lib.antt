pub mod TagLaws
pub mod EmptyLaws
pub mod OpenLaws
