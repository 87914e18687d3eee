pub mod ChainLaws
pub mod PartnerLaws
pub mod ResultLaws
pub mod TestLaws
