pub mod ChainLaws
pub mod NextLaws
pub mod GoodLaws
pub mod WorkLaws
