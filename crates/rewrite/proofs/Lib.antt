pub mod PairLaws
pub mod AnswerLaws
