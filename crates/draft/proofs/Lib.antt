pub mod DraftLaws
pub mod AnswerLaws
