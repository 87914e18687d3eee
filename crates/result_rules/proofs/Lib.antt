pub mod BrokenLaws
pub mod EndLaws
pub mod GoodLaws
pub mod WorkLaws
