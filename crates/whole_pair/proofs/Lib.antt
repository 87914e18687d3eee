pub mod SearchLaws
pub mod SequenceLaws
