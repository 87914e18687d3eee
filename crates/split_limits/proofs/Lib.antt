pub mod CountLaws
pub mod CutLaws
pub mod AddedLaws
pub mod SizeLaws
