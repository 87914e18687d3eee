pub mod TestLaws
pub mod IdLaws
pub mod MatchLaws
pub mod ChainLaws
pub mod TenLaws
