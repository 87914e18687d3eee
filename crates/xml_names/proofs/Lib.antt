pub mod NameLaws
pub mod PrefixLaws
