pub mod StepLaws
pub mod ElementLaws
pub mod LoopLaws
