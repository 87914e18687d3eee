pub mod GoodLaws
pub mod ChainLaws
pub mod EndLaws
pub mod OldLaws
