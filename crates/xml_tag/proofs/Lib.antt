pub mod MarkedLaws
pub mod TagLaws
pub mod CommentLaws
pub mod OpeningLaws
