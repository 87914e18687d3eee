pub mod OuterSteps
pub mod StepLaws
pub mod PositionLaws
pub mod TagSteps
pub mod SideLaws
pub mod HeadLaws
