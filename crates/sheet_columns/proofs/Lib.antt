pub mod TakenLaws
pub mod CursorLaws
pub mod ByteLaws
pub mod StepLaws
