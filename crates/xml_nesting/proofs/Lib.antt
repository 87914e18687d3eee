pub mod RunLaws
pub mod StepLaws
pub mod DepthLaws
pub mod EndLaws
