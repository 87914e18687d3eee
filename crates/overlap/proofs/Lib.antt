pub mod Marks
pub mod TestLaws
pub mod RangeLaws
