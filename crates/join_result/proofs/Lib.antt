pub mod ResultLaws
pub mod SizeLaws
