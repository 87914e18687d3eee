pub mod Laws
pub mod Utf8Laws
pub mod BlockLaws
pub mod PairLaws
pub mod TripleLaws
pub mod Coding
pub mod TextLaws
pub mod PointLaws
