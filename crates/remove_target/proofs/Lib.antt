pub mod ChainLaws
pub mod GoodLaws
pub mod WorkLaws
