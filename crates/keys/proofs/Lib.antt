pub mod KeyLaws
pub mod FillLaws
pub mod SeenLaws
pub mod MarkLaws
pub mod FilledLaws
